pub mod Info
pub mod Status
pub mod Stream
pub mod Join
pub mod Laws
pub mod inside
