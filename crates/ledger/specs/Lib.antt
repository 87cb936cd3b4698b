-- The columns of a Newick text as sets of taxa.
pub mod Sets
pub mod inner
