pub mod Tables
pub mod Reads
pub mod Loads
pub mod Views
pub mod Ends
pub mod Held
pub mod Records
pub mod Kept
