-- Matrix files: what they hold, and which are taken.
pub mod Matrix
pub mod Check
pub mod inner
