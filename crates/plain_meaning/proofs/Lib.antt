pub mod Equations
pub mod Relations
pub mod Endings
pub mod LawLemmas
pub mod Wants
pub mod NamesLemmas
pub mod Reports
