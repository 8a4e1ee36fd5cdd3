pub mod Watch
pub mod Feed
pub mod Laws
