pub mod Sets
pub mod Orders
pub mod Compared
pub mod Possibles
pub mod Ends
pub mod SameCells
pub mod InBatch
pub mod Nulls
pub mod Begun
pub mod Standings
mod Rows
pub mod Taking
pub mod GivenColumns
pub mod Found
pub mod Judging
pub mod PlaceStanding
pub mod SoFar
pub mod Places
mod OpenedRows
