pub mod Read
pub mod Held
pub mod Block
pub mod Laws
