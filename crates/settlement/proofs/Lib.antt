mod Lending
mod Making
mod Answering
mod Running
pub mod Facts
mod Turning
pub mod Circuits
mod Between
mod GatesKeep
mod InputsKeep
mod OutputsKeep
pub mod Outcomes
mod Kept
mod Counting
pub mod Values
pub mod Certifying
mod Beginning
mod Theorem
pub mod AlikeLengths
pub mod AlikeBits
mod AlikeRefusals
mod AlikeCalls
mod Alike
mod Wiping
mod Settling
