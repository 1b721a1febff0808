-- when the tags of components distinguish them
pub mod FirstTags
pub mod Distinct
-- which types are looked at
pub mod Limits
-- how the first clash is looked for, and what the code's answer means
pub mod Search
-- what the components that clash have in common
pub mod InCommon
-- how it is looked for with a map of the tags
pub mod Views
-- what the search says of every type
pub mod Laws
-- ---- what only private contracts and proofs cite
pub mod inside
