-- ---- sets of values
pub mod Elements
pub mod Presence
pub mod Member
pub mod NumberSets
-- ---- what is violated first
pub mod Violations
-- ---- what only private contracts and proofs cite
pub mod inside
-- ---- worked examples
pub mod rows
