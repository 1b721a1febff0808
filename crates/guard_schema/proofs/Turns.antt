-- Steps one after another: what comes of them, and lists as loops read them.
pub mod Outcomes
pub mod Loops
