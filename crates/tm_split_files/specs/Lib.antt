pub mod Names
pub mod ShelfFaults
pub mod Shelves
pub mod code
