pub mod Joiner
pub mod Rows
pub mod BatchSides
pub mod BuiltSides
pub mod LeftPairs
pub mod HeldRows
