pub mod Pieces
pub mod Grammar
pub mod Reading
pub mod Refusals
