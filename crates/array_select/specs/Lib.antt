pub mod Selection
pub mod SetBits
pub mod ColumnValues
pub mod OfSlots
pub mod GatherMany
pub mod Fitting
pub mod Room
pub mod inside
