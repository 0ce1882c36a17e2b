pub mod Getters
pub mod Filled
pub mod Required
pub mod Examples
