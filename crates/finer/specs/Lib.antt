pub mod Finer
pub mod Laws
