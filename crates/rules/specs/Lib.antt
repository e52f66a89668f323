pub mod Word
pub mod Template
pub mod Naming
pub mod Form
pub mod States
pub mod Rule
