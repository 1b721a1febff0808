-- Lemmas, in reading order. What the checker asks for of a function is in folders with the names of src/.

-- ---- single values
pub mod SingleValues
-- ---- elements of a SET OF
pub mod SetOf
-- ---- entries in braces, as the code reads them
pub mod Braces
-- ---- what is read is what the tree denotes
pub mod Denoted
-- ---- faults
pub mod FirstFaults
-- ---- what is denoted fits
pub mod Fitting
-- ---- how many octets encodings have
pub mod Counting
-- ---- one answer
pub mod OneAnswer
