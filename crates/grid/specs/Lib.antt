pub mod Cells
pub mod Sides
pub mod Refusals
pub mod Joined
