-- What only private contracts and proofs cite.
pub mod Each
pub mod Octets
pub mod Compared
pub mod Spelled
pub mod NamedOrders
