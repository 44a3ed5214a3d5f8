pub mod Carried
pub mod Opened
pub mod Sound
