pub mod Calls
pub mod Filling
pub mod Showing
pub mod Zeros
