pub mod Cases
pub mod Returns
pub mod Switches
