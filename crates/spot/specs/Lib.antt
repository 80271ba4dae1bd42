pub mod Codes
pub mod Spots
pub mod Packs
pub mod Refusals
