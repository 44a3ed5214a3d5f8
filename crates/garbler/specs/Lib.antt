pub mod Garbling
