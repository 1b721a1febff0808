-- Lists of ranges: what they hold, their gaps and their common parts, as sets of integers.
pub mod InOrder
pub mod Gaps
pub mod CommonParts
pub mod AsSets
pub mod HoldingRange
pub mod AlikeRuns
