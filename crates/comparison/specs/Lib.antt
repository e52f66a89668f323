pub mod Deciding
pub mod Books
pub mod Finding
pub mod Outcome
pub mod Printing
pub mod Answering
