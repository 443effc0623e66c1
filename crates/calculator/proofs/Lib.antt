pub mod Fitting
pub mod Words
