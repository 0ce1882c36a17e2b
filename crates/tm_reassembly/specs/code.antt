pub mod Blocks
pub mod DataFields
pub mod Field
pub mod Slots
pub mod Fits
