pub mod Answer
pub mod DataType
pub mod Schema
