pub mod Adds
pub mod Braces
pub mod Objects
pub mod Seen
