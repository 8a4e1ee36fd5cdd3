pub mod Answer
pub mod Trailer
