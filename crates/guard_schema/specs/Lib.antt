-- Definitions, in reading order: `Accepts` is the page to read first, and rests on all the others.
pub mod Outcomes
pub mod Faults
pub mod Texts
pub mod Known
pub mod LongValues
pub mod Readings
pub mod Finishing
pub mod Counting
pub mod Building
pub mod Schemas
pub mod Accepts
pub mod OneAnswer
pub mod Unfinished
pub mod FinishedSound
pub mod EachType
-- what the values of the code mean
pub mod Pairs
pub mod Entries
pub mod Views
-- ---- what only private contracts and proofs cite
pub mod inside
