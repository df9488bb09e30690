pub mod Formats
pub mod Outwards
