pub mod Fields
pub mod Slots
