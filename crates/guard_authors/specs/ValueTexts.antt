-- The value of a type that a text alone writes, in the notation of X.680 17, or why it writes none.
use Rattle.std.specs.Prelude.{◌≢◌, ℕ, List, [], ◌∷◌, codes}
use Rattle.std.specs.Option.{MatchOption, option_map_or}
use Rattle.guard_model.specs.AbstractType.{AbstractType}
use Rattle.guard_lexer.specs.Lexing.{Lexes, FirstFault}
use Rattle.guard_lexer.specs.declared.token.Token.{Token}
use Rattle.guard_syntax.specs.Lexemes.{lexemes_of, sites_of}
use Rattle.guard_syntax.specs.Parses.{IsWrittenValue, HasValueSites}
use Rattle.guard_syntax.specs.declared.fault.SyntaxFault.TheVariants as syntax
use Rattle.guard_syntax.specs.Trees.{WrittenValue}
use Rattle.guard_values.specs.FirstFault.{IsFirstFault}
use Rattle.guard_values.specs.Meanings.{Meaning}
use Rattle.guard_schema.specs.Faults.{named}
use Rattle.guard_schema.specs.Known.{values_in}
use Rattle.guard_policy.specs.Policies.{AbstractMessage}
use Rattle.guard_schema.specs.declared.fault.SchemaFault.{SchemaFault}
use Rattle.guard_schema.specs.declared.fault.SchemaFault.TheVariants.{Lex, Syntax, Value, OutOfMemory}
use Rattle.guard_notes.specs.Notes.{schema_place}
use Rattle.guard_notes.specs.Sources.{AbstractSources, sources, place_lines}
use Rattle.guard_files.specs.declared.fault.Fault.TheVariants.{Schema}
use Rattle.guard_files.specs.Devices.{Device}
use Rattle.guard_files.specs.Reading.{AbstractLoaded}
use Rattle.guard_files.specs.Writing.{TellsNoMemory, TellsWith}

-- What values names mean in a text that writes a value of a message: those that they mean in the module of its declared
-- type (X.680 14.1).
abbrev pub names_for : AbstractLoaded → AbstractMessage → Meaning
names_for l d = values_in l.known d.home

-- The tokens of the text, which is number 1, write this tree of the grammar, in which each node has the site of its
-- first token.
pub record IsWrittenAs (text : List ℕ) (tree : WrittenValue) : Type 0 where
  pub tokens : List Token
  pub lexed : Lexes 1 text tokens
  pub written : IsWrittenValue tree (lexemes_of text tokens)
  pub sited : HasValueSites tree (sites_of tokens)

-- no tree of the grammar is written with these tokens
abbrev pub HaveNoTree : List ℕ → List Token → Type 0
HaveNoTree text tokens = (tree : WrittenValue) → IsWrittenValue tree (lexemes_of text tokens) → ⊥

-- Why a text writes no value of the type, where names mean this: it has no tokens; the grammar has no value with them;
-- or the tree denotes no value of the type. That memory ran out may be said in place of any answer.
abbrev pub IsNoValue : Meaning → AbstractType → List ℕ → SchemaFault → Type 0
IsNoValue m t text (Lex f) = FirstFault 1 text f
IsNoValue m t text (Syntax f) =
    (f ≢ syntax.OutOfMemory) × ((tokens : List Token) × Lexes 1 text tokens × HaveNoTree text tokens)
IsNoValue m t text (Value f) = (tree : WrittenValue) × IsWrittenAs text tree × IsFirstFault m t tree f
IsNoValue m t text OutOfMemory = Unit {0}
IsNoValue m t text _ = ⊥

-- the text, as the lines that show a place in it name it
abbrev pub value_sources : List ℕ → AbstractSources
value_sources text = sources [] (codes "value" ∷ []) (text ∷ [])

-- what comes after the line of such a fault: its place, and the line with a mark under the column
abbrev pub value_note : List ℕ → SchemaFault → List ℕ
value_note text f = option_map_or (place_lines (value_sources text)) (schema_place f) []

-- A fault that names what is wrong is reported with the place; else memory ran out.
abbrev pub TellsNoValue : List ℕ → SchemaFault → Device → ℕ → Type 0
TellsNoValue text f err status =
    MatchOption (named f) (TellsNoMemory err status) (λ _. TellsWith (Schema f) (value_note text f) err status)
