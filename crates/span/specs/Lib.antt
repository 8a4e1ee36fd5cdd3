pub mod Spot
pub mod Span
