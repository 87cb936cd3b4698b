-- Laws that other crates cite: of the check, and of file and names.
pub mod Spelling
pub mod Lists
pub mod Walking
pub mod Judging
pub mod Passing
pub mod Turns
pub mod Checking
pub mod Taken
pub mod Encoding
pub mod Places
pub mod Specimens
