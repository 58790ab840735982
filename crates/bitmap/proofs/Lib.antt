pub mod Masks
mod Rows
mod Places
mod Packing
