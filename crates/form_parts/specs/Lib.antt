pub mod Layers
pub mod Variables
pub mod Types
pub mod Pointers
pub mod Formats
