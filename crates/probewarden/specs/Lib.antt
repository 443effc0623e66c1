pub mod Encoding
pub mod Exported
