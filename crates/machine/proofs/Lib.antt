pub mod ByLast
pub mod Order
pub mod Alike
pub mod Showing
pub mod Described
