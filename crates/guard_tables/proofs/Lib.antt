-- ---- sums of counts
pub mod Counts
-- ---- a search through all nodes
pub mod Crowding
-- ---- what same tags and bases come to
pub mod BareTypes
pub mod Faultless
-- ---- sets of slots
pub mod SlotSets
pub mod SlotRanges
pub mod SlotSums
pub mod NumberSegments
pub mod Adding
-- ---- demands as tests of one node
pub mod Bases
pub mod Speaking
pub mod Failing
-- ---- demands of any form, and how many slots they take
pub mod SlotCounts
pub mod Forming
pub mod PartCounts
pub mod FewSlots
-- ---- a plan that asks all that is asked
pub mod Telling
pub mod Truths
pub mod OwnTests
pub mod FormNodes
pub mod LaidParts
pub mod Laying
-- ---- what nodes stand for, and one node more
pub mod Spots
pub mod Growing
pub mod Comings
pub mod AskedOfParts
pub mod LaidSteps
pub mod LaidTypes
pub mod AscendingParts
-- ---- what loops gather
pub mod Gathered
-- ---- ranges of integers
pub mod JoinedRanges
pub mod ItemTests
-- ---- formulas from lists
pub mod FormLists
pub mod FormRooms
pub mod SlotOfTypes
pub mod ReadsBack
pub mod LaidStanding
pub mod SharedTypes
pub mod SharedSlots
pub mod OfTables
-- ---- sets of slots as words, and what an absent default fails
pub mod SlotWords
pub mod LowestSlots
pub mod TermWords
pub mod LaidWords
-- ---- numbers that fail nothing
pub mod PlainIntervals
