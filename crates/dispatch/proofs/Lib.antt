pub mod Answers
pub mod Arms
pub mod Causes
pub mod Registers
pub mod Table
