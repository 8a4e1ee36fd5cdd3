pub mod HRecord
