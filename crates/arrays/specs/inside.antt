-- What contracts of this crate's private functions alone cite.
pub mod Dictionary
pub mod Nulls
pub mod PlacedIndices
pub mod Runs
pub mod TextCuts
pub mod SignedNumbers
pub mod Slots
