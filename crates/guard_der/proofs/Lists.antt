-- The elements of an OF type.
pub mod Elements
pub mod Faults
