pub mod Colons
