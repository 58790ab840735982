pub mod SpelledColumns
pub mod Refusals
pub mod inside
pub mod TextRecords
pub mod FieldValues
pub mod FittingColumns
