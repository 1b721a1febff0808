-- The contents of a SEQUENCE.
pub mod Contents
pub mod Faults
