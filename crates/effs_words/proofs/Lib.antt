pub mod Numerals
pub mod Turning
pub mod Judging
pub mod OneAnswer
pub mod Shapes
pub mod Steps
pub mod Answering
mod Places
mod NoMemory
