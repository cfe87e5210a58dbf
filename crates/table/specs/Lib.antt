pub mod Kinds
pub mod Permits
pub mod Powers
pub mod Reading
pub mod Answers
pub mod Entries
