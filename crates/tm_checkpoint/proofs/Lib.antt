pub mod ToldLemmas
pub mod CheckpointLength
pub mod VersionLemmas
pub mod ReadValid
pub mod CheckpointLemmas
pub mod NoPrefix
pub mod CheckpointExamples
