pub mod Ranges
pub mod Counts
pub mod Figures
pub mod Reports
pub mod Taking
pub mod Full
pub mod Answers
