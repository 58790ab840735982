pub mod Numbers
pub mod Line
pub mod Request
