-- Definitions, and what is known where one is built.
pub mod Visible
pub mod Types
pub mod Readings
pub mod OneDefinition
pub mod AllDefinitions
