pub mod Every
pub mod Ascii
pub mod Fields
pub mod Digits
