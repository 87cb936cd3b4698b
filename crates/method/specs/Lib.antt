-- The method in document 01's words: one split, the tree that splits build, flows, and choices of flips; columns merged; and what it was before C-14.
pub mod Split
pub mod Tree
pub mod Choices
pub mod Flow
pub mod Merging
pub mod Counted
pub mod inner
