pub mod Written
pub mod Spelling
pub mod Reading
pub mod Complete
pub mod Sound
