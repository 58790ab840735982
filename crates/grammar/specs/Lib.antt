pub mod Rule
pub mod Reading
pub mod Sentence
