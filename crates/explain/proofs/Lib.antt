pub mod Telling
pub mod Vectors
mod Longer
