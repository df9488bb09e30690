pub mod Growing
pub mod Before
pub mod Tails
