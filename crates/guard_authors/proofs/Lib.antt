pub mod ListingLaws
pub mod WrittenValues
pub mod TriedCases
pub mod RowsCounted
pub mod SummaryLines
pub mod FramesCompared
pub mod PiecesStopped
pub mod PlacesTaken
