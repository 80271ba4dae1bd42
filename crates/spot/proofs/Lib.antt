pub mod Coding
pub mod CodeLists
mod Writing
mod Spotting
mod Sheets
pub mod Packings
