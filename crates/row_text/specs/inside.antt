-- Inside: what only the contracts of private functions cite.
pub mod Quotes
