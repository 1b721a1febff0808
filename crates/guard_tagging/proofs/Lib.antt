-- Lemmas, in reading order. What the checker asks for of a function is in folders with the names of src/.

-- ---- the definitions on examples
pub mod Rows
-- ---- numbers, tags, and lists of parts as they are read
pub mod Numbers
pub mod TagLists
pub mod Lists
-- ---- what the walk over a written type makes is what the definitions say
pub mod Types
-- ---- what names mean, and the definitions in their order
pub mod Definitions
pub mod Builds
