pub mod Claims
pub mod MorselRing
pub mod Right
pub mod Turns
