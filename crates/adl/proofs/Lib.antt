pub mod Heads
pub mod Parts
pub mod Declared
pub mod Operators
pub mod Whole
