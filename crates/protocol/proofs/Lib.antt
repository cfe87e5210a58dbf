pub mod Images
pub mod Played
pub mod Puts
pub mod Tests
