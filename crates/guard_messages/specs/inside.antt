-- What only private contracts and proofs cite.
pub mod Passed
pub mod Spots
