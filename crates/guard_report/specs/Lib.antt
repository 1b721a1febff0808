pub mod Text
pub mod Lines
-- ---- values as they are written
pub mod Layouts
pub mod Strings
pub mod CharacterStrings
pub mod ValueText
pub mod Parts
-- ---- messages with the places of their parts
pub mod Places
pub mod Shown
-- ---- what only contracts inside the crate speak of
pub mod inside
-- ---- worked examples
pub mod rows
