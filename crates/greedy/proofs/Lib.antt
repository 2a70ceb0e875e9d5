pub mod Overs
pub mod Bytes
pub mod Kept
