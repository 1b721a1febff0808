-- The tags that are written before a type.
pub mod OneByOne
pub mod WrittenTags
