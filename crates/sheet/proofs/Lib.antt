pub mod Tallies
pub mod Calls
pub mod Running
mod Arranging
pub mod Holding
