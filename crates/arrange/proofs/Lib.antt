pub mod Counted
pub mod Totals
pub mod Cuts
pub mod Uniques
pub mod Sides
mod Flats
pub mod Spots
pub mod Computing
