pub mod Arms
pub mod Laid
pub mod Lent
