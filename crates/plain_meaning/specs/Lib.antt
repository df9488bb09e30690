pub mod Tree
pub mod Points
pub mod Acts
pub mod Values
pub mod Meaning
pub mod Run
pub mod Names
pub mod Reported
