-- ---- what is asked of a value at a node
pub mod Nodes
pub mod Conditions
-- ---- sets of slots, and what nodes stand for
pub mod Slots
pub mod Formulas
pub mod Plan
pub mod Marking
pub mod Segments
pub mod Standing
-- ---- how what is asked is tested at a node
pub mod Demands
pub mod Terms
pub mod Apt
pub mod Forms
pub mod OfParts
pub mod Lay
-- ---- the nodes
pub mod Alphabets
pub mod NodeViews
pub mod TableNodes
pub mod NodesView
-- ---- why there is no table, and what a table is
pub mod Tables
pub mod TableView
pub mod Alike
-- ---- what plans of tables fail
pub mod Laws
pub mod StandsFor
-- ---- what only private contracts and proofs cite
pub mod inside
-- ---- worked examples
pub mod rows
