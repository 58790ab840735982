pub mod Running
pub mod ServerRequests
pub mod Descriptors
