-- No promise rests on these: flows as the search tries them.
pub mod Sources
