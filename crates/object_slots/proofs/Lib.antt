pub mod Behind
pub mod Changing
pub mod Headers
pub mod Kept
pub mod Laws
pub mod Opening
pub mod States
pub mod Taking
