-- What people hold, and the specimens.
pub mod Held
pub mod Pairs
pub mod Halves
pub mod Lent
pub mod Specimens
