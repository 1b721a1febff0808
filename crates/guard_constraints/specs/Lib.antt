-- ---- which elements may be where, and what they say
pub mod Visible
pub mod Applies
pub mod RangeEnds
pub mod PermittedAlphabets
pub mod ListedParts
pub mod PartFaults
-- ---- which constraint a tree denotes, and why one denotes none
pub mod Denotes
pub mod Conditions
pub mod Faults
pub mod FirstFault
-- ---- what the code's results and arguments mean
pub mod Views
pub mod Noted
-- ---- what only private contracts and proofs cite
pub mod inside
-- ---- worked examples
pub mod rows
