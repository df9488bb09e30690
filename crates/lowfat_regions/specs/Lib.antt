pub mod Regions
pub mod Shapes
