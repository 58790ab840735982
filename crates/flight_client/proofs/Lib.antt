pub mod Arrivals
pub mod Statuses
pub mod Together
pub mod Typed
pub mod Worked
