pub mod Instruction
pub mod Machine
pub mod Decoding
pub mod Ground
