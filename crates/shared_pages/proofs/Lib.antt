pub mod Lists
pub mod Paging
