-- The search for definitions that use themselves.
pub mod Paths
pub mod Parts
pub mod Lists
pub mod Searching
