-- ---- the code reads what the reading functions read
pub mod Loops
pub mod Levels
-- ---- sound: what is read is what the tree writes, and the grammar allows it
pub mod SoundSteps
pub mod SoundLists
pub mod SoundValues
pub mod SoundSets
pub mod SoundTypes
pub mod SoundModule
-- ---- complete: what a tree of the grammar writes is read again
pub mod CompleteLists
pub mod CompleteValues
pub mod CompleteSets
pub mod CompleteTypes
pub mod CompleteModule
-- ---- both, for the tokens of a text
pub mod SoundAndComplete
-- ---- what holds of all lexemes that a tree writes
pub mod Following
pub mod SpelledNames
