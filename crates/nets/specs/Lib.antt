pub mod Finders
pub mod Verifiers
pub mod Sweeps
pub mod Lightness
pub mod SweepsLemmas
pub mod Lowest
