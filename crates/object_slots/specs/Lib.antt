pub mod Objects
pub mod SlotStates
pub mod View
