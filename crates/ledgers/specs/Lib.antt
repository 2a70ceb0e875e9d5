pub mod Doublings
pub mod Replays
