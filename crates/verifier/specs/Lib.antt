pub mod Answered
pub mod Form
pub mod Inspect
pub mod Outcome
pub mod Sending
pub mod Targets
