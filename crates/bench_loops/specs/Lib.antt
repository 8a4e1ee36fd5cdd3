pub mod Timed
pub mod Moments
