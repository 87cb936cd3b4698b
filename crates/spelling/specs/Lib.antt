-- The operation that writes an answer and a name list as Newick text.
pub mod Write
pub mod inner
