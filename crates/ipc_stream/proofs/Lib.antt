pub mod Claims
pub mod Fronts
pub mod Streams
pub mod Cuts
pub mod Rows
