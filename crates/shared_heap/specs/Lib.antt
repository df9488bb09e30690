pub mod Regions
pub mod Kept
pub mod Shared
pub mod Closing
