-- What only private contracts and proofs cite.
pub mod Taken
pub mod Asked
