pub mod BRecord
pub mod Height
