pub mod Strings
pub mod Aboves
pub mod Answering
pub mod Zeros
pub mod Marks
pub mod CutPuts
pub mod CutReads
pub mod Trips
mod Pushes
