pub mod Becoming
pub mod Clashes
pub mod Opening
