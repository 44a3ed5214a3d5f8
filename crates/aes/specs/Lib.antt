pub mod Field
pub mod SBox
pub mod Bytes
pub mod Rounds
pub mod KeyExpansion
pub mod Cipher
pub mod Columns
pub mod Shares
