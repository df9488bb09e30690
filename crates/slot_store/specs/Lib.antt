pub mod Cells
pub mod Numbers
pub mod Pages
pub mod Slots
pub mod Words
