pub mod Formats
pub mod Numbers
pub mod Parameters
