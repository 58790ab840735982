-- What contracts of this crate's private functions alone cite.
pub mod ClassRange
pub mod TextStanding
pub mod JudgedBatches
