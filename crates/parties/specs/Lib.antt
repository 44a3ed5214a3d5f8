pub mod Side
pub mod Marks
pub mod Turns
pub mod States
pub mod Refusing
pub mod Ready
