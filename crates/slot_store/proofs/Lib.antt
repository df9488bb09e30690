pub mod Digits
pub mod Reading
pub mod Values
pub mod Paging
pub mod Slots
pub mod Stored
pub mod Widths
