pub mod BlameLemmas
pub mod EndingLemmas
pub mod ProgramLemmas
