pub mod Stats
pub mod Sides
pub mod HeldStats
pub mod Columns
pub mod Beginnings
pub mod OwnedStats
pub mod inside
