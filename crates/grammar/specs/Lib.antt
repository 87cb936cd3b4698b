-- Newick text: trees, the texts that spell them, and the reader that goes byte by byte.
pub mod Bytes
pub mod Trees
pub mod Text
pub mod Reader
pub mod Places
pub mod Columns
pub mod Writer
pub mod Verdict
pub mod Limits
pub mod Clerk
pub mod Faults
pub mod inner
