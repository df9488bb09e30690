pub mod Addresses
pub mod Classes
pub mod Division
