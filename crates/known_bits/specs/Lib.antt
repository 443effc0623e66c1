pub mod Computed
pub mod Formula
pub mod KnownBits
pub mod Learn
pub mod Masks
pub mod Pair
pub mod Shift
