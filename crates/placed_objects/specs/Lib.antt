pub mod Placed
pub mod Meant
