-- What a definition is where it is built, it is where all is built: more is known there, and nothing is known
-- otherwise.
pub mod Values
pub mod Constraints
pub mod Finished
pub mod Tagged
pub mod Steps
pub mod Numbers
pub mod EachType
