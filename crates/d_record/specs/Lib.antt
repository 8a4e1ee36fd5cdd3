pub mod DRecord
