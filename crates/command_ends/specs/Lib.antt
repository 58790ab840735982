pub mod Status
pub mod Network
pub mod Printing
pub mod WholeInput
pub mod inside
