pub mod CTurnpoint
