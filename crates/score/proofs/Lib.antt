-- Laws of the score.
pub mod Nearest
pub mod Columns
pub mod Least
pub mod Light
pub mod Scoring
pub mod Places
