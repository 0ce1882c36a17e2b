pub mod Folding
pub mod Frames
pub mod Headers
