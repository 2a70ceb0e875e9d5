pub mod Powers
pub mod Limits
pub mod Growth
pub mod Potential
pub mod Sections
pub mod Books
