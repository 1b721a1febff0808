-- Components of a SEQUENCE or SET: found by their tags, which are distinct, and read one at a time.
pub mod DistinctTags
pub mod ByTag
pub mod OneComponent
