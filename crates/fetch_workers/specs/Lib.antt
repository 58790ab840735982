pub mod inside
pub mod Merging
pub mod Parts
pub mod SharedValues
