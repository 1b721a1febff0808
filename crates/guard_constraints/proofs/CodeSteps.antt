-- What loops and single calls of the code read, as the definitions have it.
pub mod PushedReadings
pub mod ValueAnswers
pub mod RepeatedParts
pub mod TypeParts
pub mod KeptTrees
pub mod JoinedConstraints
pub mod AlphabetForms
pub mod AgreedPlaces
pub mod NotedBounds
