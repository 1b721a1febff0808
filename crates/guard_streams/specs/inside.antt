-- What only private contracts and proofs cite.
pub mod Putting
pub mod Doing
pub mod Noting
pub mod Seeing
pub mod Counting
pub mod Following
