pub mod Onward
pub mod ByteKinds
pub mod Sound
pub mod Complete
pub mod Hexadecimal
