pub mod Signed
pub mod Print
