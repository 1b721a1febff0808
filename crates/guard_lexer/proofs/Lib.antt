-- the definitions, computed on examples
mod Rows
-- what a text begins with
pub mod OctetTests
pub mod Lengths
pub mod CommentsAndStrings
pub mod LongestMarks
pub mod NumberValues
pub mod WordTexts
pub mod LongestItems
-- what follows for the whole text
pub mod OneCut
pub mod SpelledTokens
pub mod OneAnswer
pub mod TokensOrFault
-- the code reads item by item
pub mod ReadItems
