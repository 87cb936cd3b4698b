-- No promise rests on these: what functions of the code ask of each other and leave each other.
pub mod Parts
pub mod Handing
pub mod On
