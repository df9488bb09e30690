pub mod Directives
pub mod Macros
pub mod Expands
pub mod Reading
pub mod Marked
pub mod Numbering
pub mod Walks
pub mod Changes
