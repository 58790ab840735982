pub mod Stream
pub mod Writing
pub mod inside
