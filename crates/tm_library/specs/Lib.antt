pub mod Chunks
pub mod Refusals
pub mod Calls
pub mod BinaryRows
