-- An element at the front of octets: the laws between its reading, its encodings and its faults.
pub mod Steps
pub mod AtFront
pub mod Laws
