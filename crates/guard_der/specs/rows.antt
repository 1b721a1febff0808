-- Worked examples, which the checker computes.
pub mod Rows
pub mod BreachRows
pub mod SetRows
pub mod SoundRows
