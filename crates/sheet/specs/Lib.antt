pub mod Counts
pub mod Memory
pub mod Held
pub mod Arranged
pub mod Refusals
pub mod Runs
