-- ---- what every call says
pub mod Statuses
pub mod Telling
-- ---- handles
pub mod Owning
pub mod Holding
-- ---- policies
pub mod Asking
pub mod Policies
-- ---- links
pub mod Links
-- ---- what only private contracts and proofs cite
pub mod inside
