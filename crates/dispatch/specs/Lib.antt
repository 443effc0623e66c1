pub mod Opcodes
pub mod Represent
