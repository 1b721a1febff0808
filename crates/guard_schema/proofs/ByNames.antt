-- A schema finds its types by their names, and is what texts denote.
pub mod Definitions
pub mod Lookups
pub mod Answers
