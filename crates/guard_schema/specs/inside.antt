-- What only private contracts and proofs cite.
pub mod Room
pub mod Ready
pub mod InTurn
