pub mod Enumerators
pub mod Flexible
pub mod Marks
pub mod Names
pub mod Words
