-- Answer files: what an answer holds, its rules, its file, and the two operations.
pub mod Content
pub mod Lawful
pub mod Rules
pub mod Tests
pub mod Reading
pub mod Writing
