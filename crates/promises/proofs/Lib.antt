-- The theorems, by demand; and for the proofs by hand, a function that only calls another.
pub mod Bytes
pub mod Numbers
pub mod Refusals
pub mod Lent
pub mod Answers
pub mod OneAnswer
pub mod Entries
pub mod FromC
pub mod Halves
pub mod Newick
pub mod Tree
pub mod Score
pub mod Least
pub mod Unmerged
pub mod Specimens
pub mod PassingOn
