-- What only private contracts and proofs cite.
pub mod ReadTags
pub mod ReadNames
pub mod Views
pub mod ReadItems
pub mod ReadNodes
pub mod NodeViews
pub mod ReadParts
pub mod PartViews
pub mod ReadBases
pub mod ReadTypes
