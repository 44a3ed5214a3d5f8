pub mod Starting
pub mod Copying
