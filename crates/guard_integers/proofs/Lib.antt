-- Lemmas, in reading order. What the checker asks for of a function is in folders with the names of src/.
pub mod RangeLists
