-- The modules that texts are.
use Rattle.std.specs.Prelude.{ℕ, suc, ◌≤◌, List, [], ◌∷◌, ◌++◌, length, All, IsUtf8, Ok, Err, nat_le}
use Rattle.guard_lexer.specs.declared.token.Token.{Token}
use Rattle.guard_lexer.specs.Lexing.{Lexes, FirstFault, fault_named}
use Rattle.guard_syntax.specs.declared.fault.SyntaxFault.{SyntaxFault}
use Rattle.guard_syntax.specs.Trees.{WrittenModule}
use Rattle.guard_syntax.specs.Lexemes.{lexemes_of, sites_of}
use Rattle.guard_syntax.specs.Parses.{IsWritten, HasSites}
use Rattle.guard_syntax.specs.Faults.{NamesToken, fault_of}
use Rattle.guard_names.specs.declared.fault.NameFault.TheVariants.{TooManyModules}
use Rattle.guard_names.specs.Faults.{most_modules}
use Rattle.guard_tagging.specs.Spelled.{IsSpelledModule}
use Rattle.guard_schema.specs.Outcomes.{Is, Passes, Then}
use Rattle.guard_schema.specs.Faults.{Lex, Syntax, Name, Outcome, IsNamed}

-- The text is cut into tokens that write this tree, each node with the site of its first token. `place` is its place in
-- the list, from 1.
pub record IsModuleText (place : ℕ) (text : List ℕ) (tree : WrittenModule) : Type 0 where
  pub tokens : List Token
  pub lexes : Lexes place text tokens
  pub written : IsWritten tree (lexemes_of text tokens)
  pub sites : HasSites tree (sites_of tokens)

-- The text is cut into tokens that write no tree, and the fault names one of them, or the end of the text.
pub record WritesNothing (place : ℕ) (text : List ℕ) (fault : SyntaxFault) : Type 0 where
  pub tokens : List Token
  pub lexes : Lexes place text tokens
  pub unwritten : (tree : WrittenModule) → ¬ (IsWritten tree (lexemes_of text tokens))
  pub named : NamesToken place text tokens fault

-- the tree of a text, or its first fault
abbrev pub ReadsText : ℕ → List ℕ → Outcome WrittenModule → Type 0
ReadsText place text (Ok tree) = IsModuleText place text tree
ReadsText place text (Err (Lex f)) = IsNamed fault_named f × FirstFault place text f
ReadsText place text (Err (Syntax f)) = IsNamed fault_of f × WritesNothing place text f
ReadsText place text (Err _) = ⊥

-- those of several texts in turn, after these
abbrev pub ReadsTexts : List WrittenModule → List (List ℕ) → Outcome (List WrittenModule) → Type 0
ReadsTexts before [] = Is before
ReadsTexts before (text ∷ texts) = Then (ReadsText (suc (length before)) text)
    (λ tree. ReadsTexts (before ++ tree ∷ []) texts)

-- N7: there are 64 at most, which is looked for before any text is read
abbrev pub CountsTexts : List (List ℕ) → Outcome (Unit {0}) → Type 0
CountsTexts texts = Passes (nat_le (length texts) most_modules) (Name TooManyModules)

-- What holds of modules that texts are: there are 64 at most, their names are UTF-8, and the names and numbers in their
-- types are those of tokens.
pub record AreOfTexts (modules : List WrittenModule) : Type 0 where
  pub few : length modules ≤ most_modules
  pub named : All (λ m. IsUtf8 m.name) modules
  pub spelled : All IsSpelledModule modules
