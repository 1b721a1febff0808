-- ---- policies
pub mod Policies
pub mod KeptView
pub mod SaidView
pub mod PolicyView
pub mod Names
pub mod NamedRoutes
pub mod Consistency
-- ---- verdicts
pub mod Verdicts
pub mod Decisions
pub mod Told
pub mod Routing
pub mod Passing
pub mod FoundRoutes
-- ---- the text of a policy
pub mod Documents
pub mod Entries
pub mod PolicyFaults
pub mod EntryFaults
pub mod Loads
-- ---- what a listing tells
pub mod Barren
-- ---- what only private contracts and proofs cite
pub mod inside
-- ---- worked examples
pub mod rows
