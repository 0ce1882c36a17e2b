pub mod BufferLemmas
pub mod OpenFileLemmas
pub mod ShelfLemmas
