pub mod Layers
pub mod Steps
pub mod Growth
pub mod StatementGrowth
mod ExampleTypes
mod Examples
mod Refusals
mod ExampleProgram
