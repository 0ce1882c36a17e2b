pub mod LooseBox
pub mod Owned
