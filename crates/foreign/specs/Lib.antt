pub mod Rings
pub mod RingLimits
pub mod Touched
pub mod Greatest
pub mod HighestMissed
pub mod TouchedNet
