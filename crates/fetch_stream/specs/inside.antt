-- What contracts of this crate's private functions alone cite.
pub mod RowsAhead
pub mod BatchCuts
pub mod GivenBatches
pub mod MadeAhead
pub mod Opening
pub mod Steps
pub mod WrittenPayloads
