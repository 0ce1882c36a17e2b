pub mod ClashLemmas
pub mod FaultLemmas
pub mod FileLemmas
pub mod PlaceLemmas
