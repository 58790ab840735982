pub mod Cuts
pub mod Tickets
