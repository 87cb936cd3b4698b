-- Reading source trees: what is proved.
pub mod Runs
pub mod Comparing
pub mod Names
pub mod Lists
pub mod OpenBrackets
pub mod Columns
pub mod Places
pub mod Reasons
pub mod Signs
pub mod Naming
pub mod Ends
pub mod Finding
-- What reading promises.
pub mod Taken
pub mod Promises
pub mod Specimens
