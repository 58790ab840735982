pub mod Told
mod Next
mod Begun
mod Placed
mod Transposed
mod Joined
mod Faulty
mod Columnar
mod Lengthy
pub mod Taken
