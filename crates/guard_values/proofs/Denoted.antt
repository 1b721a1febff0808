-- What is read of a tree is what the definition says of it, and the other way round.
pub mod SettledFields
pub mod DenotedIsRead
pub mod ReadIsDenoted
