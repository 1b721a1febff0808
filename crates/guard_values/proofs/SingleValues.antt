-- What numbers, strings, arcs and names of bits are read as.
pub mod DigitsInOctets
pub mod CharactersInTurn
pub mod ArcsInTurn
pub mod NamedBits
pub mod PlacesInOctets
