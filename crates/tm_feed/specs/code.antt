pub mod Choices
pub mod Sinking
pub mod Taking
pub mod Feeds
pub mod Groups
