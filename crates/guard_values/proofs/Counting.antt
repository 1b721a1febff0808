-- How many octets encodings have, counted part after part.
pub mod Sums
pub mod SentParts
pub mod CountedLists
pub mod CountedValues
pub mod KnownLengths
pub mod KnownBounds
