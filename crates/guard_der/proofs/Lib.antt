-- Lemmas, in reading order. What the checker asks for of a function is in folders with the names of src/.

-- ---- octets
pub mod Numbers
pub mod Headers
-- ---- reading, its encodings and its faults, from the inside out
pub mod Elements
pub mod Simple
pub mod Components
pub mod Sequences
pub mod Sets
pub mod Lists
pub mod Types
-- ---- the code
pub mod Functions
