pub mod Links
pub mod FileIdentity
pub mod FileIdentities
