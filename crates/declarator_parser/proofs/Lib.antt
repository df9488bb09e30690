pub mod Depths
pub mod Parts
pub mod Spellings
pub mod ListSteps
pub mod RoleCounts
pub mod SpecifierLoop
pub mod SpecifierRefusals
