pub mod Loops
pub mod Blocks
pub mod Tail
