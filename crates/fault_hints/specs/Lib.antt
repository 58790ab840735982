pub mod MarkedLines
pub mod LeftOut
pub mod InputKinds
pub mod RefusedTypes
pub mod Hints
