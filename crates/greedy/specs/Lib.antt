pub mod Greedy
pub mod Flags
pub mod Law
pub mod Doubles
pub mod Runs
pub mod Marks
pub mod Shares
pub mod Best
