-- ---- what lines become: the page to read first
pub mod Objects
-- ---- the parts of a line and the members of its object
pub mod Cutting
pub mod Kinds
pub mod Members
-- ---- what a sink of lines takes
pub mod Taken
-- ---- what no public contract reaches
pub mod inside
-- ---- worked examples
pub mod rows
