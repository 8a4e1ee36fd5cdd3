pub mod ARecord
