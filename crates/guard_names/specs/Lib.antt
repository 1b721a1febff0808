-- ---- what names mean (X.680 13.1)
pub mod Mentions
pub mod Declarations
pub mod Meanings
-- ---- the order of definitions, and definitions that use themselves
pub mod Order
pub mod Places
-- ---- the faults
pub mod Faults
-- ---- what the contracts see of the code's values
pub mod NamesView
pub mod TableViews
-- ---- what only private contracts and proofs cite
pub mod inside
-- ---- worked examples
pub mod rows
