pub mod ByHour
