-- No promise rests on these: what functions of the code ask of each other and leave each other.
pub mod Places
pub mod Network
pub mod Reaching
pub mod Flows
pub mod Trying
pub mod On
