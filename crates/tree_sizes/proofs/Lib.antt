mod PhraseEquations
mod StatementEquations
mod OneType
pub mod PhraseSizes
pub mod UnitSizes
mod PhraseDepthEquations
mod StatementDepthEquations
mod PhraseDepths
pub mod UnitDepths
mod Cases
mod Reached
