pub mod Bit
pub mod Cut
pub mod Extend
pub mod Widths
pub mod Bytes
pub mod Pinned
