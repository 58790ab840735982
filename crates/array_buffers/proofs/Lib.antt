pub mod Packed
pub mod Appended
mod ValidBytes
mod Lengths
mod AsCame
mod BitsAgain
mod TextsAgain
mod ElementsAgain
mod IndicesAgain
pub mod ColumnsAgain
