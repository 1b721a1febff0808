-- Types of each kind, and all of them.
pub mod OwnFaults
pub mod WithoutParts
pub mod WrittenTypes
pub mod WithinLimits
pub mod Denoted
