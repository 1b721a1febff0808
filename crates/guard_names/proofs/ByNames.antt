-- What definitions use and in which order they come, by what names mean; and names where modules are added.
pub mod UseLists
pub mod SameUses
pub mod Found
pub mod Added
