pub mod Hours
