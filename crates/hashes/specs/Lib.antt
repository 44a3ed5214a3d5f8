pub mod Count
pub mod Draws
pub mod PaperHash
pub mod AesHash
pub mod ShaHash
