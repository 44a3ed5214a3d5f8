pub mod Gate
pub mod Memory
pub mod Whole
