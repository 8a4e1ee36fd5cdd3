pub mod Lines
pub mod Skipping
pub mod Undone
