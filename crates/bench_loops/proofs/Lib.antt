pub mod Heights
pub mod Walking
pub mod Minutes
