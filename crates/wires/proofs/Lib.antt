pub mod Growth
pub mod Made
