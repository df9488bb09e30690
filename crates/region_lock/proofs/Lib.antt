pub mod Closings
pub mod Entries
pub mod Keeps
pub mod Sums
