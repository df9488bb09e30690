pub mod Reading
pub mod Tails
pub mod Cuts
pub mod Printing
pub mod Adding
