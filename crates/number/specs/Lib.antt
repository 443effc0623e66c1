pub mod Compare
pub mod Computed
pub mod Demanded
pub mod Halves
pub mod Meaning
pub mod Ranges
pub mod Refined
pub mod Sharpen
