-- The contents of a SET.
pub mod TagOrder
pub mod SentFields
pub mod ReadElements
pub mod OneElement
pub mod Reading
pub mod Paths
pub mod Contents
