-- Laws that other crates cite: the rows of the rules, runs of records and entries, walks over records, and of file and content.
pub mod Rows
pub mod Kept
pub mod Runs
pub mod Pieces
pub mod Walks
pub mod Stages
pub mod Cuts
pub mod Files
pub mod Outcomes
pub mod Meaning
pub mod Taken
pub mod Encoding
pub mod Accepted
pub mod RoundTrip
pub mod Places
pub mod Numbers
