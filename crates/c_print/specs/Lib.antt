pub mod Formats
pub mod Machine
pub mod Built
pub mod Numbers
