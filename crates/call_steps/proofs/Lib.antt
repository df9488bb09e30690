pub mod Additions
pub mod CutLemmas
pub mod Orders
pub mod Parameters
pub mod Promotions
pub mod Tellings
