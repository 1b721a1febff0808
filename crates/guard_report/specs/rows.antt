-- Worked examples, which the checker computes.
pub mod Rows
pub mod LineRows
pub mod ValueRows
pub mod ShownRows
