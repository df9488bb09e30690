pub mod Strides
pub mod Stored
pub mod Known
pub mod Tables
pub mod Ordering
pub mod Growing
pub mod Making
pub mod Counting
