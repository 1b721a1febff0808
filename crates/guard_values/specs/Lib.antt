-- ---- what single values say
pub mod Strings
pub mod ObjectIdentifiers
pub mod Meanings
pub mod NamedBits
pub mod Simple
-- ---- values in braces
pub mod Places
pub mod Arrangement
-- ---- which value a tree denotes, and why one denotes none
pub mod Denotes
pub mod Forms
pub mod Conditions
pub mod Faults
pub mod FirstFault
pub mod KeptLengths
pub mod SingleValues
pub mod Views
-- ---- what only private contracts and proofs cite
pub mod inside
-- ---- worked examples
pub mod rows
