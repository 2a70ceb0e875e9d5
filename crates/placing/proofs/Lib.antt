pub mod Sizes
pub mod Accepts
pub mod Rounds
pub mod Openings
pub mod Stories
pub mod Ends
pub mod Only
