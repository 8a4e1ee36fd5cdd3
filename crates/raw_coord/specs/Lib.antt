pub mod Coord
pub mod Degrees
