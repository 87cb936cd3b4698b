-- Laws that other crates cite: of the check, and of file and content.
pub mod Judging
pub mod Multiplying
pub mod Passing
pub mod Taken
pub mod Encoding
pub mod Writing
pub mod Places
