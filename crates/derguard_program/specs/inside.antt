-- What only private contracts and proofs cite.
pub mod Arguments
pub mod Joining
