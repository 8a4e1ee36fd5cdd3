pub mod Product
pub mod Feed
pub mod Whole
