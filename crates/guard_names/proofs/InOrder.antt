-- The order of definitions: how they come into it, that there is one, and where each of them is in it.
pub mod Chains
pub mod Queueing
pub mod Settling
pub mod Orders
pub mod Placing
pub mod Places
