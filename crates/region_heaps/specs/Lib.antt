pub mod Numbers
pub mod Regions
pub mod Entries
pub mod Seen
pub mod Kept
