pub mod Lines
pub mod Hex
pub mod Sheet
pub mod Worksheet
pub mod Work
pub mod Calls
pub mod Dividend
