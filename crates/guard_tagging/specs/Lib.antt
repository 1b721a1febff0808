-- Definitions, in reading order.
pub mod Tagging
pub mod Enumerations
pub mod Types
pub mod KnownNames
pub mod Faults
pub mod Tagged
-- the refusals that name a fault, and what the code reads step by step
pub mod Named
pub mod Surroundings
pub mod Automatic
pub mod ScopeView
pub mod Spelled
pub mod Skeletons
-- ---- what only private contracts and proofs cite
pub mod inside
