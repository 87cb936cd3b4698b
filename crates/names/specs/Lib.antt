-- Name lists: what they hold, which are taken, and where a name stands.
pub mod Names
pub mod Check
pub mod Read
pub mod inner
