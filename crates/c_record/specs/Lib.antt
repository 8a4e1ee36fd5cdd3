pub mod CRecord
