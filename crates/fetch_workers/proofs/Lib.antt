pub mod Joining
pub mod Kept
pub mod Sent
pub mod GroupsKept
pub mod Merged
pub mod Parting
