pub mod FRecord
pub mod Heard
