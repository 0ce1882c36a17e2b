pub mod LooseValues
pub mod HandleValues
