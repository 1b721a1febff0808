-- Numbers of items, named numbers and named bits: which are free, and which are there twice.
pub mod Repeated
pub mod Items
pub mod FreeNumbers
pub mod WrittenNumbers
