pub mod Shapes
pub mod Table
pub mod Adding
pub mod Calls
pub mod Holds
pub mod Rows
pub mod Extents
