pub mod Copies
pub mod Examples
pub mod Stored
