pub mod Ranks
pub mod Choices
pub mod Knowing
pub mod Changing
pub mod Converting
pub mod Joining
pub mod Single
