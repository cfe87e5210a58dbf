pub mod Answered
pub mod Written
