pub mod Logs
pub mod Dropping
pub mod Versions
