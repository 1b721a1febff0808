-- ---- lines and places
pub mod Lines
pub mod Marking
pub mod Sources
-- ---- what is said of each fault, and what more
pub mod Notes
pub mod PolicyNotes
pub mod TextNotes
pub mod SyntaxNotes
pub mod ClashNotes
pub mod TokenNotes
-- ---- all of it
pub mod Explaining
