pub mod Hits
mod Gathered
mod GatheredTexts
mod GatheredValues
mod GatheredMany
mod TooMany
mod FilledSlots
mod Textless
pub mod Light
pub mod Shares
