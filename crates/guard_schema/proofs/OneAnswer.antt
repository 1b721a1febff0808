-- Texts denote one schema at most, and have one first fault at most.
pub mod Clashes
pub mod Steps
pub mod Schemas
