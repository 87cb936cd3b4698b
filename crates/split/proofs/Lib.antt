-- What is proved of the columns in code, and of growing parts.
pub mod Filling
pub mod Loading
pub mod Flipping
pub mod Growing
pub mod Collecting
pub mod Soundness
pub mod Dividing
pub mod Standing
pub mod Answering
pub mod Places
