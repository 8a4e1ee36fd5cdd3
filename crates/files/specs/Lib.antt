pub mod Call
pub mod Input
pub mod Output
pub mod Terminal
pub mod Outcome
