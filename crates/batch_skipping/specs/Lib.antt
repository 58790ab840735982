pub mod PossibleTruths
pub mod PredicateTruths
pub mod Laws
pub mod inside
pub mod ChosenColumns
pub mod OpenedBatches
pub mod Narrow
pub mod PlaceLists
