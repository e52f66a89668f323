pub mod Show
pub mod Meaning
pub mod Table
pub mod Watch
