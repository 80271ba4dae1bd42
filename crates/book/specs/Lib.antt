pub mod Pages
pub mod Refusals
pub mod Replies
pub mod Session
pub mod Outcomes
