pub mod Counts
pub mod Defs
