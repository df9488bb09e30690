pub mod TypeNames
pub mod Objects
pub mod Lines
