pub mod Reads
pub mod Known
