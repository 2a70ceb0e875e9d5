pub mod Limits
pub mod Books
pub mod Texts
