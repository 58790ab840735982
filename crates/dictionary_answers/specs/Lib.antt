pub mod Firsts
pub mod Answer
pub mod inside
pub mod Dress
pub mod Lengths
