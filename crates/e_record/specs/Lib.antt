pub mod ERecord
