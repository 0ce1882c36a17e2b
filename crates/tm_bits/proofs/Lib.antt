pub mod BitLemmas
pub mod PartLemmas
pub mod Each
pub mod Escapes
