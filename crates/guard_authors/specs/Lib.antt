-- ---- what is said of a policy
pub mod Listing
pub mod Checked
-- ---- what encodes a value that is written
pub mod ValueTexts
pub mod NoValue
pub mod Framing
pub mod Encodes
-- ---- cases that are kept beside a policy
pub mod Cases
pub mod Reached
pub mod Testing
-- ---- two policies
pub mod Differing
pub mod Summary
pub mod Comparing
-- ---- what only private contracts and proofs cite
pub mod inside
-- ---- worked examples
pub mod rows
