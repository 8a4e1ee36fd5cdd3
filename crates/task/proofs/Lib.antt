pub mod Turns
pub mod Printing
