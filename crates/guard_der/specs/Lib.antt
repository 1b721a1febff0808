-- The definitions that contracts cite, in reading order.

-- ---- what the encoding of a value is (X.690)
pub mod Octets
pub mod Element
pub mod Contents
pub mod Der
pub mod Encoding
-- ---- which values and types have one
pub mod Fits
pub mod Shortest
pub mod ProperConstraints
pub mod Sound
-- ---- sound types by their names
pub mod NamedTypes
-- ---- what is wrong with octets that are none
pub mod Head
pub mod Header
pub mod Simple
pub mod Breach
pub mod Names
pub mod Views
-- ---- what private functions compute, step by step
pub mod Reading
-- ---- what only private contracts and proofs cite
pub mod inside
-- ---- worked examples
pub mod rows
