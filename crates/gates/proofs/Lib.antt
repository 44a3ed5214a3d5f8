pub mod Halves
pub mod Placing
