-- Components and alternatives.
pub mod CodeParts
pub mod OneByOne
pub mod AutomaticTags
pub mod WrittenParts
pub mod WithParts
