pub mod ColumnBuffers
