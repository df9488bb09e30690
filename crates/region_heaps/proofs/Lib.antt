pub mod Pushed
mod Stamped
mod ByRegion
mod Keeping
