pub mod Fixes
pub mod Keeping
pub mod Glances
pub mod Pieces
pub mod Ending
pub mod Setting
