-- The build and its two halves, as functions of the files and the lengths of the lent buffers.
pub mod Lists
pub mod Build
pub mod Tree
pub mod Flips
pub mod inner
