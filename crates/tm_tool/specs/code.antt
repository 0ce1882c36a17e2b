pub mod RecordLoop
pub mod Next
pub mod Listed
pub mod Stepping
pub mod Summing
pub mod Heads
pub mod Extractors
pub mod ListingRuns
