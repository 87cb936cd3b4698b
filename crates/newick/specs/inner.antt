-- No promise rests on these: what functions of the code ask of each other and leave each other.
pub mod Runs
pub mod Words
pub mod Names
pub mod Book
pub mod Found
