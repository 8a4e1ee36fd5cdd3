pub mod Lookups
pub mod Letters
