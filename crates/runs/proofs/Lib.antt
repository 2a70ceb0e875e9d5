pub mod Openings
pub mod Rounds
pub mod Laws
pub mod Performs
pub mod Loans
