-- what limits say of a type and its parts
pub mod PartLimits
pub mod LimitTests
-- the search as it is defined finds the first clash
pub mod Options
pub mod PathLengths
pub mod SharedTags
pub mod LeastPairs
pub mod Collisions
pub mod Clashes
-- the code goes as the search is defined
pub mod SearchLoops
-- a type has one clash at most
pub mod OneClash
-- where a step leads
pub mod PartsAt
-- the search with a map of the tags finds the same
pub mod FirstOfTags
pub mod NotedTags
pub mod NotedPairs
pub mod Finding
pub mod SharedNotes
-- no clash is found exactly where all that must differ do
pub mod NoClash
