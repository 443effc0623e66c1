pub mod Wording
pub mod Tables
pub mod Asking
pub mod Serving
pub mod Replies
pub mod Texts
pub mod Vectors
