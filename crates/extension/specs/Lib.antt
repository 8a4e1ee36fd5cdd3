pub mod Extension
pub mod Value
