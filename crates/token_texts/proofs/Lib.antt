pub mod Lists
pub mod Distinct
pub mod MapLemmas
pub mod Tables
pub mod Steps
