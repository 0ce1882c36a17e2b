pub mod Item
pub mod Reasons
pub mod OnePacket
pub mod Sinks
pub mod Giving
pub mod Among
pub mod Fronts
