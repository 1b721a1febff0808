-- ---- what `parse` promises
pub mod Parses
pub mod Faults
-- ---- the tokens of a text
pub mod Lexemes
pub mod Kinds
-- ---- trees: how they are written, where their nodes are, which of them the grammar allows
pub mod Trees
pub mod TokensOf
pub mod Sites
pub mod Grammar
-- ---- the names in types
pub mod NamesInTypes
-- ---- which integer a number is
pub mod Numbers
-- ---- which tree of the definitions a tree of the code is
pub mod Views
pub mod SetViews
pub mod TypeViews
pub mod ModuleViews
-- ---- what only private contracts and proofs cite
pub mod inside
