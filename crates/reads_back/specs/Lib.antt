-- which names and characters a text is read back with
pub mod Names
-- what a text is read as
pub mod ReadingBack
-- ---- what only proofs cite
pub mod inside
