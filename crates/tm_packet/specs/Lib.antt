pub mod Header
pub mod Sequence
pub mod Merge
pub mod Valid
pub mod Spelling
pub mod code
