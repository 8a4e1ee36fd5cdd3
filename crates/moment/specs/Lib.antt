pub mod Moment
pub mod Laws
