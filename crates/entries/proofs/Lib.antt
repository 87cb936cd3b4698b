-- Rows of elements. Of entries: reading and writing from parts, and a list apart.
pub mod Rows
pub mod Reading
pub mod Writing
pub mod Apart
