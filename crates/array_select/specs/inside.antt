-- What contracts of this crate's private functions alone cite.
pub mod GatheredSlots
pub mod GatheredMany
pub mod SlotFilling
