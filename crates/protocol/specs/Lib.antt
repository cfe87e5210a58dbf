pub mod Names
pub mod Shown
pub mod Steps
pub mod Machines
pub mod Texts
pub mod TaskCalls
pub mod BookCalls
pub mod Junctions
