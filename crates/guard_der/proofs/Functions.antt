-- What the steps and loops of the code give.
pub mod Places
pub mod SimpleValues
pub mod Ascending
pub mod Fitting
pub mod Soundness
pub mod SoundTypes
pub mod Arcs
pub mod PartsInOrder
pub mod Encoding
pub mod Lengths
pub mod Decoding
pub mod ComponentLoop
pub mod ElementLoop
pub mod SetFields
pub mod SetLoop
