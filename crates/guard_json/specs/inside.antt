-- What only contracts inside the crate speak of.
pub mod Drafting
pub mod Putting
