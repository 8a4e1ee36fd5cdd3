pub mod Fitting
pub mod Totals
pub mod Joining
pub mod Adding
pub mod Answers
