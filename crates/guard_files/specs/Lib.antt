-- ---- what is asked, and the texts that it needs
pub mod Files
pub mod Faults
pub mod Reading
pub mod Digest
-- ---- what is answered
pub mod Answers
-- ---- what goes to the outputs, and the status
pub mod Devices
pub mod Writing
-- ---- many links
pub mod Records
-- ---- what explains a fault or a verdict
pub mod Explaining
-- ---- what is listed of a policy, what is shown of a message
pub mod Remarked
-- ---- what encodes a value that is written
pub mod Intake
pub mod Word
pub mod Headers
pub mod NextFrame
pub mod Allowed
pub mod Places
pub mod RuleText
-- ---- what only private contracts and proofs cite
pub mod inside
