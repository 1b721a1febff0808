-- ---- the rules that are asked
pub mod Consistent
pub mod Keeping
pub mod Applicable
pub mod Listed
pub mod Denials
pub mod Shortfalls
-- ---- the verdict
pub mod Goes
pub mod Reasons
pub mod OneReason
-- ---- by the rules of a route
pub mod RuleSlots
pub mod PartyNames
pub mod MessageNumbers
pub mod RulesNamed
pub mod MadeTables
pub mod Looks
pub mod ByMarks
pub mod GivenRoutes
pub mod AsGiven
pub mod Stripped
-- ---- the text of a policy
pub mod Gathered
pub mod LeastKey
pub mod EntriesRead
pub mod NamesSeen
-- ---- what a listing tells
pub mod Starts
pub mod SizesOfValues
pub mod Within
pub mod NothingShared
pub mod ModuleNames
pub mod Loading
