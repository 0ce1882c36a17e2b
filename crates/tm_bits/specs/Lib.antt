pub mod Bits
pub mod Escape
