-- The order of a SET OF: elements by their encodings, in whatever order they are written.
pub mod Insertion
pub mod EncodingOrder
pub mod MadeEncodings
pub mod AnyOrder
