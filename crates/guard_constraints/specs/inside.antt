-- What only private contracts and proofs cite.
pub mod Reading
pub mod Bounds
