pub mod Calls
pub mod Commands
pub mod Answers
pub mod StreamAnswers
pub mod Taking
pub mod Outcome
pub mod Sending
pub mod inside
