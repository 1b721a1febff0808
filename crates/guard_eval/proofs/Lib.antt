-- ---- parts of types and values, characters of texts
pub mod AtPlace
pub mod Characters
pub mod Codes
pub mod CodeWindows
pub mod PartFits
pub mod SameFits
-- ---- contained types and SIZE where they apply
pub mod Applied
-- ---- what the walk finds is the violation, and a member has none
pub mod Law
pub mod Walk
pub mod Paths
pub mod Calls
-- ---- integers that are allowed, as sets
pub mod WholeSets
pub mod Numbered
pub mod RuleViews
-- ---- what many strings are asked for
pub mod ValueAnswers
-- ---- many values together
pub mod ManyValues
pub mod Alternatives
pub mod PartsTogether
pub mod Gathering
-- ---- sound types
pub mod Bases
pub mod Soundness
