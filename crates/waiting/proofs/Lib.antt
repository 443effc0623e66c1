pub mod ByKind
pub mod Words
pub mod Parts
pub mod States
pub mod Blocks
