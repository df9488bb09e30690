pub mod Numbers
pub mod Schedules
pub mod Options
pub mod Names
pub mod Lines
pub mod Words
pub mod Judged
