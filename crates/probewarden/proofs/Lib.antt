pub mod EndToEnd
pub mod Injective
pub mod Meaning
pub mod Saying
