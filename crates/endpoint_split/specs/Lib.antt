pub mod Handle
pub mod HandleView
pub mod Split
