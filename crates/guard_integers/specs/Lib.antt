-- which integers a set holds
pub mod Ranges
pub mod Integers
-- what only private contracts and proofs cite
pub mod inside
