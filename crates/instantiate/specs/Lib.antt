pub mod Listing
pub mod Outcome
pub mod Growing
pub mod Verdicts
pub mod Refusals
pub mod Acts
