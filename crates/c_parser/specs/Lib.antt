pub mod Answers
pub mod ListEnd
pub mod Named
pub mod NestsStatements
pub mod Refused
pub mod ForHeader
