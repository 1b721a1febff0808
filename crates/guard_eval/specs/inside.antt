-- What only private contracts and proofs cite.
pub mod Characters
pub mod Failures
pub mod KnownCodes
pub mod HeldCodes
pub mod Windows
pub mod NumberSets
pub mod Together
pub mod OwnAnswers
pub mod Gathered
pub mod PartsTogether
pub mod ValueAnswers
