pub mod LoadFirst
pub mod Held
