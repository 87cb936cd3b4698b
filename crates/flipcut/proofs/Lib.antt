-- What C gets fits its bits, comes back out of them, and is what document 01 has the operations return.
pub mod Fitting
pub mod Values
pub mod Bits
pub mod Unpacking
