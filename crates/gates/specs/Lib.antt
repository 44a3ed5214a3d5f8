pub mod Bytes
pub mod Half
pub mod Tweak
pub mod Xor
