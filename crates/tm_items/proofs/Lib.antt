pub mod Reaching
pub mod Headers
pub mod Fronts
pub mod Leads
