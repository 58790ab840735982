-- What contracts of this crate's private functions alone cite.
pub mod InfoParts
pub mod ListedTables
