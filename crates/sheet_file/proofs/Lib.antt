pub mod Passing
pub mod Going
