pub mod Glance
pub mod Flat
pub mod Reported
pub mod End
pub mod Laws
