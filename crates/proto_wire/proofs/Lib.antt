pub mod Then
pub mod Groups
pub mod Fronts
pub mod Faults
pub mod Lists
pub mod Written
