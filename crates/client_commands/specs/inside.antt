-- What only the contracts of private functions cite.
pub mod Naming
pub mod Writers
pub mod OneStream
pub mod Runs
pub mod Turns
pub mod WrittenRuns
pub mod RowsSent
