-- A tree has a first fault or denotes a value, and not both; what the code answers of whole values.
pub mod LengthsInside
pub mod FaultOrValue
pub mod CodeAnswers
pub mod LongLists
pub mod EarlyEnds
