pub mod Measures
pub mod Counts
pub mod Sums
pub mod Extents
pub mod Laws
pub mod Plain
