pub mod GRecord
