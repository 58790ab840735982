-- What contracts of this crate's private functions alone cite.
pub mod JoinedBits
pub mod Packing
