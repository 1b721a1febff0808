-- What only private contracts and proofs cite.
pub mod Digits
pub mod EncodingSteps
pub mod Faults
pub mod Lengths
pub mod SoundParts
