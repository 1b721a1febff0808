-- What only private contracts and proofs cite.
pub mod ReadTokens
pub mod Cursors
pub mod ReadValues
pub mod ReadSets
pub mod ReadTypes
pub mod ReadModule
