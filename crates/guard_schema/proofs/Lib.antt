-- Lemmas, in reading order. What the checker asks for of a function is in folders with the names of src/.

-- ---- steps one after another, and that there is one answer
pub mod Turns
pub mod OneAnswer
-- ---- texts and their modules
pub mod Modules
-- ---- tags that leave room for the single values in constraints
pub mod Room
-- ---- definitions: what is filled into their types, and how each is built
pub mod Filled
pub mod Built
-- ---- a finished type is sound
pub mod Sound
-- ---- each definition where all is built
pub mod Throughout
-- ---- the schema
pub mod ByNames
-- ---- values that stand alone
pub mod Alone
