pub mod Numbers
pub mod Refusing
pub mod Sure
