mod Texts
pub mod Growing
pub mod Tapes
pub mod Sending
pub mod Outgoing
mod Found
mod Again
mod Stands
mod Streams
pub mod Splitting
pub mod Coming
