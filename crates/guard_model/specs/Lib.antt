-- ---- what a call answers
pub mod Answer
-- ---- tags, values and types, as the definitions see them
pub mod Tags
pub mod AbstractValue
pub mod AbstractType
pub mod NamedLists
pub mod Components
pub mod Counts
pub mod Kinds
pub mod Slots
-- ---- what is said of them
pub mod Limits
pub mod Alphabets
pub mod Same
pub mod SameBase
-- ---- which of them a value or type of the code is
pub mod ValueView
pub mod TypeView
pub mod SameType
-- ---- what only private contracts and proofs cite
pub mod inside
