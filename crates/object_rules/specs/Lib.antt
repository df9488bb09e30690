pub mod Closing
pub mod Definitions
pub mod Numbered
pub mod Types
