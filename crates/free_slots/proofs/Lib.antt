pub mod Kept
pub mod Marks
pub mod Steps
pub mod Wholes
