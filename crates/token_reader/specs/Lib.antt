pub mod Scoping
pub mod Input
pub mod Reader
pub mod Cursor
pub mod Refused
pub mod Found
pub mod Nests
