pub mod Names
pub mod Strings
pub mod Texts
pub mod Indexed
pub mod Gains
