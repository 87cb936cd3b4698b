-- The score of a tree against a matrix.
pub mod Score
pub mod Operation
pub mod inner
