pub mod Sets
pub mod Packed
pub mod Members
pub mod Within
pub mod Listed
