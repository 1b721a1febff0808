-- Identifier and length octets: what is read is what is there, and what is there is read.
pub mod TagsAndLengths
pub mod Heads
pub mod Offsets
