-- What only contracts inside the crate speak of.
pub mod Listing
pub mod LineEnds
