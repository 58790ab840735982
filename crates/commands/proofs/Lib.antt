pub mod Refusing
pub mod Serving
pub mod Crews
pub mod Seated
pub mod Telling
pub mod Together
pub mod New
