pub mod Tables
pub mod Calls
pub mod Views
pub mod ComingOut
pub mod Files
pub mod Agreeing
