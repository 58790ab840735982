-- What contracts of this crate's private functions alone cite.
pub mod Coming
pub mod JoinedMorsels
