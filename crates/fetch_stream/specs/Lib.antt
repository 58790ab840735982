pub mod Fetches
pub mod Morsels
pub mod Streams
pub mod inside
