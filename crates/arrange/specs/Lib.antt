pub mod Trees
pub mod Computed
