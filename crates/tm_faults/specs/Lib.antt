pub mod Keys
pub mod Columns
pub mod FaultLines
pub mod Explanations
