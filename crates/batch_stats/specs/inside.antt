-- What contracts of this crate's private functions alone cite.
pub mod CodeSets
pub mod MeasuredBatch
pub mod Slots
pub mod TextKeys
pub mod TextSlots
