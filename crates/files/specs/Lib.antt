pub mod Formats
pub mod Theorems
pub mod Converting
