pub mod LRecord
