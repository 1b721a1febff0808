-- What only private contracts and proofs cite.
pub mod DemandViews
pub mod OnePart
pub mod FormViews
pub mod JoinedRanges
pub mod Counting
pub mod Search
pub mod SideViews
pub mod SlotWords
pub mod Items
pub mod Intervals
pub mod Aside
pub mod Bare
pub mod Assembled
pub mod Ascending
pub mod DemandsOfParts
pub mod Sharing
pub mod SharedTypes
