pub mod Numbers
pub mod Plains
pub mod Runs
