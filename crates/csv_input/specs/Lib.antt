pub mod Input
pub mod Lines
pub mod Rows
pub mod Long
pub mod inside
