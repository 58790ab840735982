pub mod Log
pub mod Expiry
pub mod Entries
pub mod Index
pub mod Versions
