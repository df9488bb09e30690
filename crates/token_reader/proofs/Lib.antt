pub mod ScopeLemmas
pub mod SpelledLemmas
pub mod Turns
pub mod Reading
pub mod Refusals
