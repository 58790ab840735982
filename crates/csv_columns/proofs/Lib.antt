pub mod Plain
pub mod Worded
pub mod More
pub mod Again
pub mod Marked
pub mod Words
pub mod Parsed
pub mod Refusing
pub mod Left
mod Taken
pub mod Placed
mod Ranges
pub mod Tried
pub mod Each
