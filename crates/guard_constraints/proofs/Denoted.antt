-- What is read of a constraint tree is what it denotes, and its fault the first.
pub mod SoundParts
pub mod Agreement
pub mod PlainElements
pub mod InnerConstraints
pub mod WholeTrees
pub mod DenotedIsRead
pub mod OneConstraint
pub mod WrittenValues
pub mod ProperConstraints
pub mod StandingFaults
pub mod CodeAnswers
