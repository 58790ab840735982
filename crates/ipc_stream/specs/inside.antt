-- Inside: what only contracts of private functions cite.
pub mod Front
