pub mod Bounds
pub mod Shapes
pub mod Stretches
pub mod GateParts
pub mod Checks
pub mod Circuits
pub mod Wholes
mod United
