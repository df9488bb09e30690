pub mod Passing
pub mod PointerActions
pub mod Operands
pub mod Declared
pub mod Loops
pub mod Branches
pub mod Workers
pub mod Words
