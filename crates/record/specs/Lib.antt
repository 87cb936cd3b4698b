-- Numbers as bytes, and records.
pub mod Bytes
pub mod Records
pub mod Refusals
