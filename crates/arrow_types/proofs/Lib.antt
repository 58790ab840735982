pub mod Answered
pub mod Plain
pub mod SameNumber
