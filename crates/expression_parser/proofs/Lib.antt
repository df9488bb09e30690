pub mod Shallow
pub mod TypePhrases
pub mod Operands
pub mod Joined
