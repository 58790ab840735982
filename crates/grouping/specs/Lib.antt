pub mod AnswerRows
pub mod Answers
pub mod FedRows
pub mod FoundKeys
pub mod inside
