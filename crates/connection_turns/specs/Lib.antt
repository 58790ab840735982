pub mod Drawers
pub mod Rules
