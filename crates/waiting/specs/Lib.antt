pub mod Layout
pub mod State
pub mod Store
pub mod View
