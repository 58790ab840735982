pub mod Parts
pub mod SameCodes
