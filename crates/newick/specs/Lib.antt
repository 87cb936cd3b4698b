-- Reading source trees.
pub mod Read
pub mod Held
pub mod inner
