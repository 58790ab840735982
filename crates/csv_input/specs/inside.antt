-- Inside: what only the contracts of private functions cite.
pub mod Chunks
pub mod Cells
pub mod Batches
