pub mod Refusals
pub mod Spaces
pub mod Below
pub mod Weights
