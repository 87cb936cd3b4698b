-- Laws of the lists of an answer.
pub mod Lists
pub mod Walking
pub mod Opening
pub mod Rules
pub mod Writing
pub mod Building
pub mod Rows
pub mod FlipsRows
pub mod Halves
pub mod Places
