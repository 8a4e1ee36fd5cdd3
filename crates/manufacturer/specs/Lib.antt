pub mod Maker
