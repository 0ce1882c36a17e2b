pub mod Blame
pub mod Wanted
pub mod Losses
