pub mod Works
pub mod Checkpoints
pub mod Told
