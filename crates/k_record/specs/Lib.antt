pub mod KRecord
