pub mod Doublings
pub mod Certificates
pub mod Places
pub mod Replays
pub mod Pushes
