pub mod AesBytes
