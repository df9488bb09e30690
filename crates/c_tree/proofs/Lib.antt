pub mod ValueEquations
pub mod StatementEquations
pub mod Counting
mod Cases
