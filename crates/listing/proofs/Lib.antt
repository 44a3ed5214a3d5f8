pub mod Steps
pub mod Inputs
pub mod Sheets
pub mod Plans
pub mod Dividends
