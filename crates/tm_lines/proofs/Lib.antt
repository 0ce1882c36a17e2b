pub mod BufferLemmas
pub mod LineLemmas
