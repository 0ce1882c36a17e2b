pub mod Sinking
pub mod Outlets
pub mod ShelfLaws
pub mod Quiet
