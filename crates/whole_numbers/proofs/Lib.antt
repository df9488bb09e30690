pub mod Words
pub mod WordArithmetic
pub mod Traps
pub mod Tables
pub mod TypeLaws
pub mod Quotients
