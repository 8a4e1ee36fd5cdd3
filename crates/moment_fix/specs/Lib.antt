pub mod Fix
