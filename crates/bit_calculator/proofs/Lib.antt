pub mod AddedDigits
pub mod ProductCuts
pub mod Widths
pub mod Words
