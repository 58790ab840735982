-- What contracts of this crate's private functions alone cite.
pub mod Coding
pub mod Table
pub mod PackedPlaces
pub mod Blocks
pub mod WrittenLengths
pub mod CodedTexts
