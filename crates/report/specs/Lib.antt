pub mod Range
pub mod Counts
pub mod Figures
pub mod Peak
pub mod Report
pub mod Laws
