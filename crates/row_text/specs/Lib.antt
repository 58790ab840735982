pub mod Rows
pub mod Lines
pub mod Records
pub mod TableCells
pub mod Tables
pub mod inside
