pub mod Orders
pub mod CellOrders
pub mod Selections
pub mod Divisions
pub mod Keys
