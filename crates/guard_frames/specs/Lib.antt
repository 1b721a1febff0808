-- ---- the headline: the page to read first
pub mod Headline
-- ---- streams
pub mod Frames
pub mod Cutting
pub mod Bodies
-- ---- what comes of frames
pub mod Outcomes
pub mod Deciding
pub mod Recalling
pub mod Totals
pub mod Prefix
pub mod Added
pub mod Calls
pub mod Reasons
pub mod Guarding
pub mod Answering
-- ---- what the calls do
pub mod ThroughView
pub mod KeptView
pub mod LinkView
pub mod FaultTexts
pub mod Feeding
pub mod Runs
pub mod Leaving
-- ---- under a policy
pub mod OfPolicy
-- ---- many links, and a policy that may be replaced
pub mod LinkSteps
pub mod Gateways
pub mod GatewaySteps
pub mod OwnPieces
pub mod InForce
pub mod OwnStream
pub mod GatewayView
pub mod Lending
-- ---- under the policy that texts say
pub mod Texts
pub mod RunsTexts
-- ---- what no public contract reaches
pub mod inside
-- ---- worked examples
pub mod rows
