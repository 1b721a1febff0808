-- What only private contracts and proofs cite.
pub mod Visible
pub mod Reading
