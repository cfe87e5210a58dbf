pub mod Tied
pub mod Agreement
