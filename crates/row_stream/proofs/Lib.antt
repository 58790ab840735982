pub mod Parts
pub mod Messages
pub mod Numbers
pub mod Dressed
pub mod Broken
pub mod Causes
pub mod SoFar
pub mod Cuts
