-- Which tree a list of tokens has, as a module or as a value alone.
use Rattle.std.specs.Prelude.{◌≡◌, List, []}
use Rattle.guard_model.specs.declared.site.Site.{Site}
use Rattle.guard_syntax.specs.Lexemes.{Lexeme}
use Rattle.guard_syntax.specs.Trees.{WrittenModule, WrittenValue}
use Rattle.guard_syntax.specs.TokensOf.{tokens_of, value_then}
use Rattle.guard_syntax.specs.Sites.{sited, sited_value}
use Rattle.guard_syntax.specs.Grammar.{IsModule, IsValue, most_levels}

-- The tree is one of the grammar, in which each type, value and set is within at most 128 others, and is written with
-- these lexemes.
pub record IsWritten (m : WrittenModule) (ls : List Lexeme) : Type 0 where
  pub grammar : IsModule m
  pub tokens : tokens_of m ≡ ls

-- each node has the site of its first token, where the tokens have these sites
abbrev pub HasSites : WrittenModule → List Site → Type 0
HasSites m ss = sited m ss ≡ m

-- Two trees are equal, sites aside: with the same sites they are one tree.
abbrev pub IsSameTree : WrittenModule → WrittenModule → Type 0
IsSameTree a b = (ss : List Site) → sited a ss ≡ sited b ss

-- ---- a value alone (X.680 17.7)

-- The tree is one of the grammar, in which each value is within at most 128 others, and is written with these lexemes
-- and no other.
pub record IsWrittenValue (v : WrittenValue) (ls : List Lexeme) : Type 0 where
  pub grammar : IsValue most_levels v
  pub tokens : value_then v [] ≡ ls

-- the value with the sites of the tokens that write it
abbrev pub value_sited : WrittenValue → List Site → WrittenValue
value_sited v ss = (sited_value v ss).0

-- each node has the site of its first token, where the tokens have these sites
abbrev pub HasValueSites : WrittenValue → List Site → Type 0
HasValueSites v ss = value_sited v ss ≡ v
