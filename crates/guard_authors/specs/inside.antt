-- What only private contracts and proofs cite.
pub mod Caseless
pub mod Counting
pub mod Pieces
