pub mod FunctionLemmas
pub mod GlobalLemmas
pub mod NumberLemmas
pub mod PutLemmas
pub mod Tellings
