-- What only private contracts and proofs cite.
pub mod Listings
pub mod Numbers
pub mod Answers
pub mod Asked
pub mod Applicable
pub mod Keeping
pub mod Leads
pub mod Said
pub mod KeptRules
