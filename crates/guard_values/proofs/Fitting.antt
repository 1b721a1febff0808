-- What a tree denotes under a proper type is a value of the type, and so is what is known of names.
pub mod OctetsOfBits
pub mod ArcsWithinLimits
pub mod DenotedValuesFit
pub mod KnownValuesFit
