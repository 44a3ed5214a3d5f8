pub mod Course
pub mod Enough
pub mod Planned
pub mod Outcome
pub mod Furnished
