pub mod Becoming
pub mod Clashes
pub mod Places
pub mod Opening
