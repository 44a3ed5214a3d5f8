pub mod Decided
pub mod Early
pub mod Marking
pub mod Stepping
