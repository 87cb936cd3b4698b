-- Laws that other crates cite: of numbers and records as bytes, of elements by their number, of writing over lent room, of reading records, and of where a reading ends.
pub mod Numbers
pub mod Files
pub mod Equal
pub mod Lists
pub mod Over
pub mod Steps
pub mod Lengths
pub mod Passing
pub mod Refusals
pub mod Places
