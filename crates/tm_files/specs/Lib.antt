pub mod Names
pub mod FileIdentities
pub mod code
