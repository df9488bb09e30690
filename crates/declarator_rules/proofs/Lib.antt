pub mod FieldLemmas
pub mod MemberLemmas
pub mod Open
pub mod ParameterLemmas
pub mod Tellings
