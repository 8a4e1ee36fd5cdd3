pub mod Coord
pub mod Axis
