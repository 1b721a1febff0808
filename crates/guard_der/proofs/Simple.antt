-- Contents of the simple kinds.
pub mod Texts
pub mod LastOctets
pub mod ObjectIdentifiers
pub mod Laws
pub mod Shortest
