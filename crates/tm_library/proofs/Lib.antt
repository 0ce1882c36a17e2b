pub mod Examples
pub mod Zeros
pub mod ChunkLemmas
pub mod CallLemmas
pub mod RefusalLemmas
pub mod OctetLemmas
pub mod RowLemmas
pub mod SoundFields
