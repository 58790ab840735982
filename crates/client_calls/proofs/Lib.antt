pub mod Taking
pub mod Ones
pub mod Streams
pub mod Sending
pub mod Calling
pub mod Payloads
pub mod Puts
pub mod Next
