-- What modules declare and export, the numbers of definitions, and look-ups.
pub mod Listing
pub mod Modules
pub mod Keys
pub mod LookedUp
pub mod Meaning
pub mod Numbered
pub mod HomePlaces
