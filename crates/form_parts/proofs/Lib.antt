pub mod FormatLemmas
pub mod ScopeLemmas
