-- What only the contracts of private functions cite.
pub mod Parts
pub mod Arriving
pub mod Payloads
pub mod Heads
