pub mod Answers
pub mod Numbers
pub mod Actions
pub mod Declarations
pub mod Statements
pub mod Programs
