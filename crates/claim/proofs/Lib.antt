pub mod Tests
pub mod Lines
pub mod Stepping
pub mod Deciding
pub mod Piecing
pub mod Fronts
pub mod Saying
