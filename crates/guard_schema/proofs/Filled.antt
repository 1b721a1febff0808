-- Constraints and defaults that are filled into a type.
pub mod Lists
pub mod NodeCounts
pub mod TakenKinds
pub mod ReadyTypes
pub mod ByTrees
pub mod Next
pub mod Moves
pub mod Steps
pub mod OneConstraint
pub mod Loops
pub mod Kinds
pub mod Unfinished
