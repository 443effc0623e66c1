pub mod Request
pub mod Naming
pub mod Bits
pub mod Answer
