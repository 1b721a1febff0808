-- ---- frames that ask
pub mod Stream
pub mod Answered
pub mod Asking
-- ---- many links
pub mod Passing
pub mod InForce
pub mod Counted
pub mod Allowed
pub mod Tallying
pub mod AtFault
pub mod Turns
pub mod Muxing
pub mod OwnRecords
-- ---- a stream that is guarded with notes
pub mod Saying
pub mod Verbose
-- ---- a stream that is guarded with counters
pub mod Faults
pub mod Counters
pub mod LinksCounted
pub mod Shown
pub mod Counting
pub mod CountingLinks
-- ---- what only private contracts and proofs cite
pub mod inside
