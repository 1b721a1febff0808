-- single octets, and what octets make
pub mod Octets
pub mod Spelling
pub mod Items
pub mod Words
-- the tokens of a text and its first fault
pub mod Sites
pub mod Lexing
pub mod Spans
pub mod Laws
-- how a text is read from left to right; no public contract reaches it
-- ---- what only private contracts and proofs cite
pub mod inside
