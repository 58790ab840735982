pub mod Adding
pub mod Asking
pub mod Saying
