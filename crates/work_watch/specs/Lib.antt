pub mod WatchedWork
pub mod Weight
