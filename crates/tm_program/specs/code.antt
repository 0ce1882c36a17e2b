pub mod Blames
pub mod Endings
pub mod Faults
pub mod Tasks
