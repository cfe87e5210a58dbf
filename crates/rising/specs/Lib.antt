pub mod Ascent
pub mod Items
pub mod Literals
