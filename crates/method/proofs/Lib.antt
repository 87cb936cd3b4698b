-- Flows and cuts.
pub mod Sources
pub mod Hops
pub mod Cuts
pub mod Carry
pub mod HopTree
pub mod Sweep
pub mod Path
pub mod Spread
pub mod Largest
pub mod Example
-- One split: listing, flips, parts, and the network that names it.
pub mod Least
pub mod Shares
pub mod Listing
pub mod Network
pub mod Search
pub mod Width
pub mod Flips
pub mod Entries
pub mod Parts
pub mod Links
pub mod Splits
-- The build: its depth, what it does to the columns, its groups, and where it comes to.
pub mod Depth
pub mod Walks
pub mod Shape
pub mod Order
pub mod Components
pub mod Comes
pub mod Arcs
-- Clades, trees that fit, and the answer.
pub mod Filling
pub mod Clades
pub mod Fitting
pub mod Choices
pub mod FlipList
pub mod Promises
pub mod Counted
-- The same column twice.
pub mod Agree
pub mod Merging
