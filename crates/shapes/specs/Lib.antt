pub mod Coordinates
pub mod Lists
pub mod Boxes
pub mod Strips
pub mod Limits
