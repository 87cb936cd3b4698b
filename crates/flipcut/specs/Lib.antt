-- What C gets: packed numbers, and how they are taken apart.
pub mod Packed
pub mod Unpacked
pub mod inner
