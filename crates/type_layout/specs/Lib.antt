pub mod Runs
pub mod Matches
pub mod Preferred
pub mod Listed
pub mod Search
pub mod Pending
