-- No promise rests on these: what functions of the code ask of each other.
pub mod Fitting
