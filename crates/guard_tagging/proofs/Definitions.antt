-- The definitions in their order: what names mean in them, which are tagged automatically, and the type of each.
pub mod SpelledTokens
pub mod AtPlaces
pub mod Meanings
pub mod KnownNames
pub mod AutomaticLists
pub mod Flags
pub mod InOrder
pub mod OneDefinition
