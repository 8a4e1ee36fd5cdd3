pub mod Days
pub mod Gregorian
