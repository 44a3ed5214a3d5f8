pub mod Entries
pub mod Words
pub mod Halves
pub mod WordLists
pub mod Expansion
pub mod Mixed
pub mod Placed
pub mod RoundSteps
