-- Worked examples, which the checker computes.
pub mod JsonRows
