pub mod Rooms
pub mod Cases
mod FilesOf
mod AgreedOn
