pub mod Signed
pub mod ValueText
pub mod Announced
