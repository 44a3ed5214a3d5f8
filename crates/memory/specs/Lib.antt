pub mod Seed
pub mod Start
pub mod Outputs
pub mod Copy
