pub mod Bytes
pub mod Lines
pub mod Trailers
pub mod Sheets
pub mod Writing
pub mod Reading
pub mod RoundTrip
pub mod Single
