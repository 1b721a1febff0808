-- Lemmas, in reading order. What the checker asks for of a function is in folders with the names of src/.

-- ---- constraint trees
pub mod Denoted
-- ---- steps of the code
pub mod CodeSteps
