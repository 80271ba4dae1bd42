pub mod Told
pub mod Lists
pub mod Spots
pub mod Refusals
pub mod Codes
