pub mod Mixed
pub mod Ran
pub mod Table
pub mod Level
pub mod Material
pub mod Gate
pub mod All
