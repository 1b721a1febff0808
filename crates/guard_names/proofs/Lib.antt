-- Lemmas, in reading order. What the checker asks for of a function is in folders with the names of src/.

-- ---- what assignments mention
pub mod Mentioned
-- ---- what modules declare and export, and look-ups
pub mod Declared
-- ---- the faults, one after the other
pub mod Faults
-- ---- the order
pub mod InOrder
-- ---- definitions that use themselves
pub mod Recursive
-- ---- uses and orders by what names mean
pub mod ByNames
