pub mod Region
pub mod Histories
