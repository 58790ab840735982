pub mod Sentence
pub mod Names
