-- ---- parts of lines
pub mod Places
pub mod Pieces
-- ---- objects
pub mod Drafts
pub mod OneLine
pub mod Objects
-- ---- lines of them
pub mod Readings
pub mod Takings
