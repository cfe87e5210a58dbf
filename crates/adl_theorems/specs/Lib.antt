pub mod Writes
pub mod Theorems
