-- What only private contracts and proofs cite.
pub mod NodeParts
pub mod Answers
pub mod FrontViews
pub mod Members
pub mod AtOnce
pub mod Firsts
pub mod Ranks
pub mod HighTags
