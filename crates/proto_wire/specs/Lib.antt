pub mod Standard
pub mod Reading
pub mod Writing
pub mod Calls
pub mod Laws
