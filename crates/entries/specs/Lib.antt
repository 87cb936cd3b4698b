-- The flip list as entries, and what reading into such a list and writing from it promise.
pub mod Entries
pub mod inner
