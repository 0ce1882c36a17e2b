pub mod Limits
pub mod Settings
pub mod Advice
