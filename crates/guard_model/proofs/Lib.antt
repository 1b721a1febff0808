-- ---- for all crates: answers and tests
pub mod Results
pub mod Options
pub mod Tests
pub mod Loops
-- ---- for all crates: tags, types and values
pub mod Tags
pub mod TypeViews
pub mod ValueViews
pub mod Components
pub mod Characters
-- ---- for all crates: threads
pub mod Sent
-- ---- equality of values and of types
pub mod Sameness
pub mod SameTypes
mod Compared
mod DifferentLengths
mod NamedOrders
mod Spelled
