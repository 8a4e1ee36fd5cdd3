pub mod Codes
pub mod Search
