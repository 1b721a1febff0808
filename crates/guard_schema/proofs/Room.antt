-- Tags that leave room for the single values of a type's constraints.
pub mod Headers
pub mod Short
