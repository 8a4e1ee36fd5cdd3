pub mod Wholes
pub mod Moves
pub mod Windows
