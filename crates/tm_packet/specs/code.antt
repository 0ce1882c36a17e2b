pub mod Headers
pub mod Single
pub mod Places
pub mod Blocks
