pub mod Names
pub mod Known
pub mod Distances
mod Examples
