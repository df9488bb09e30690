pub mod Same
pub mod Words
pub mod Limits
pub mod Names
