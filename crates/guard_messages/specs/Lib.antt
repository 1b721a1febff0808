-- ---- what is asked, and the texts that it needs
pub mod Questions
-- ---- what is answered
pub mod Printing
pub mod FirstRun
-- ---- a message in a file, in a frame or in a frame of a link
pub mod Numbered
pub mod Linked
pub mod Finding
-- ---- what explains a fault or a verdict
pub mod RuleTypes
pub mod Reasons
pub mod HeaderNotes
-- ---- what is listed of a policy, what is shown of a message
pub mod PartsBefore
pub mod ValueJson
pub mod Shown
-- ---- what decides or shows one message
pub mod Decided
pub mod Deciding
-- ---- what only private contracts and proofs cite
pub mod inside
-- ---- worked examples
pub mod rows
