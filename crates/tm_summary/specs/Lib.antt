pub mod Kinds
pub mod SummaryNumbers
pub mod Adding
pub mod Lines
pub mod Sums
pub mod Losses
pub mod Tallies
pub mod code
