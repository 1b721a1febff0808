-- What one of many links gives: its pieces, the frames in them, and the steps of a gateway.
-- ---- frames, each under a policy
pub mod Ruling
pub mod Places
pub mod OnePairing
-- ---- what a link gives
pub mod From
pub mod Joining
-- ---- steps
pub mod Links
pub mod Chains
-- ---- the code's seats
pub mod AtSeats
pub mod Gateways
