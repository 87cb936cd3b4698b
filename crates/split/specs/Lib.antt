-- One split in code: what its names mean.
pub mod Columns
pub mod Groups
pub mod Operation
pub mod inner
