-- ---- lists
pub mod Elements
-- ---- devices
pub mod Appending
pub mod Asking
pub mod Reading
-- ---- streams and bodies
pub mod Readings
pub mod Splitting
pub mod HeaderLaws
pub mod NameSizes
pub mod BodyDecisions
pub mod Recalled
pub mod Reporting
pub mod LineOfFrame
-- ---- frames that are decided one after another
pub mod Going
pub mod Counting
pub mod Noting
pub mod Progress
pub mod Steps
pub mod Waits
pub mod Sendings
pub mod Composing
pub mod Holding
pub mod Leavings
-- ---- many links
pub mod Own
-- ---- laws
pub mod AnsweredAlike
pub mod GoesExactly
-- ---- texts
pub mod OnePolicy
pub mod UnderTexts
pub mod WholeHeadline
