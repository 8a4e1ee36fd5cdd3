pub mod Hours
pub mod Searching
pub mod Laws
