pub mod Standing
pub mod Scenes
pub mod Runs
