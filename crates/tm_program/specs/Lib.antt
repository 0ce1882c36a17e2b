pub mod Program
pub mod Statuses
pub mod Found
pub mod code
