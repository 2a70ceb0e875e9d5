pub mod Placements
pub mod Playing
pub mod Lending
