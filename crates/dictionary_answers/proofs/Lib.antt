pub mod Places
pub mod Adding
pub mod Tables
pub mod Indexed
pub mod Slots
pub mod Numbers
pub mod IndicesMade
pub mod Marks
pub mod Parts
pub mod Answered
pub mod AnsweredSoFar
mod Rows
pub mod Dressing
pub mod Lengths
pub mod Sent
pub mod Whole
