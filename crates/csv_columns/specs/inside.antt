-- Inside: what only the contracts of private functions cite.
pub mod Marks
-- Inside: what a reader of records has left.
pub mod Reading
pub mod Tests
