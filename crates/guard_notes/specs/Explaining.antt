-- What comes after the line of a fault of modules or of a policy: the file, the line with a mark under the column, what
-- more is known of it, and what to do.
use Rattle.std.specs.Prelude.{◌≡◌, ℕ, List, [], ◌++◌, codes, Option, Some, None, option_map}
use Rattle.guard_model.specs.declared.site.Site.{Site}
use Rattle.guard_lexer.specs.declared.fault.LexFault.{LexFault}
use Rattle.guard_lexer.specs.declared.fault.LexFault.TheVariants as lex
use Rattle.guard_tagcheck.specs.Views.{common_view}
use Rattle.guard_schema.specs.declared.fault.SchemaFault.{SchemaFault}
use Rattle.guard_schema.specs.declared.fault.SchemaFault.TheVariants as schema
use Rattle.guard_policy.specs.declared.fault.PolicyFault.{PolicyFault}
use Rattle.guard_notes.specs.Marking.{columns}
use Rattle.guard_notes.specs.Notes.{schema_place, policy_place}
use Rattle.guard_notes.specs.declared.notes.Place.{Place}
use Rattle.guard_notes.specs.PolicyNotes.{IsSaidOfPolicy}
use Rattle.guard_notes.specs.Sources.{AbstractSources, sources, module_text, place_lines}
use Rattle.guard_notes.specs.TextNotes.{octets_at, character_line}
use Rattle.guard_notes.specs.ClashNotes.{clash_line}
use Rattle.guard_notes.specs.SyntaxNotes.{IsExpectedLine}
use Rattle.guard_notes.specs.TokenNotes.{ByTokens, site_of_name, site_of_syntax, undefined_lines}

-- of a fault of tokens: what the character is
abbrev pub lex_lines : AbstractSources → LexFault → List ℕ
lex_lines s (lex.BadCharacter site) = character_line (octets_at site (module_text s site.text))
lex_lines s (lex.BadString site) = []
lex_lines s (lex.OpenComment site) = []
lex_lines s (lex.BadHyphen site) = []
lex_lines s (lex.NumberTooLarge site) = []
lex_lines s (lex.NotUtf8 text) = []
lex_lines s (lex.TextTooLong text) = []
lex_lines s lex.OutOfMemory = []

-- of a fault of names: by the tokens of the module at the place of a name that means nothing
abbrev pub IsSaidOfName : AbstractSources → Option Site → List ℕ → Type 0
IsSaidOfName s None lines = lines ≡ []
IsSaidOfName s (Some site) lines =
    ByTokens site.text (module_text s site.text) (undefined_lines (module_text s site.text) site) lines

-- of a fault of the grammar: what may come at a token at which it goes no further
abbrev pub IsSaidOfSyntax : Option Site → List ℕ → Type 0
IsSaidOfSyntax None lines = lines ≡ []
IsSaidOfSyntax (Some site) lines = IsExpectedLine lines

-- these lines are said of a fault of modules
abbrev pub IsSaidOfModules : AbstractSources → SchemaFault → List ℕ → Type 0
IsSaidOfModules s (schema.Lex f) lines = lines ≡ lex_lines s f
IsSaidOfModules s (schema.Syntax f) lines = IsSaidOfSyntax (site_of_syntax f) lines
IsSaidOfModules s (schema.Name f) lines = IsSaidOfName s (site_of_name f) lines
IsSaidOfModules s (schema.Tag f) lines = lines ≡ []
IsSaidOfModules s (schema.Clash site clash common) lines = lines ≡ clash_line (option_map common_view common)
IsSaidOfModules s (schema.Cons f) lines = lines ≡ []
IsSaidOfModules s (schema.Value f) lines = lines ≡ []
IsSaidOfModules s (schema.DefaultOutside site) lines = lines ≡ []
IsSaidOfModules s (schema.TooLarge site) lines = lines ≡ []
IsSaidOfModules s schema.OutOfMemory lines = lines ≡ []

-- ---- all of it

-- a line of words, of which at most 120 columns are shown
abbrev pub words_line : List ℕ → List ℕ
words_line words = codes "  " ++ (columns words ++ codes "\n")

-- what is wrong and what to do, and perhaps a second line
abbrev pub advice_lines : List ℕ → Option (List ℕ) → List ℕ
advice_lines words None = words_line words
advice_lines words (Some more) = words_line words ++ words_line more

-- the place, what more is said, and what to do; nothing where memory ran out
abbrev pub note_lines : AbstractSources → Option Place → List ℕ → List ℕ → Option (List ℕ) → List ℕ
note_lines s None said words more = []
note_lines s (Some place) said words more = place_lines s place ++ (said ++ advice_lines words more)

-- this comes after the line of a fault of modules; which words it has is shown by rows, as it is below
abbrev pub IsSchemaNote : AbstractSources → SchemaFault → List ℕ → Type 0
IsSchemaNote s f note =
    (said words : List ℕ) × (more : Option (List ℕ)) × IsSaidOfModules s f said
    × (note ≡ note_lines s (schema_place f) said words more)

-- this after that of a fault of the policy at a path, which has this text
abbrev pub IsPolicyNote : List ℕ → List ℕ → PolicyFault → List ℕ → Type 0
IsPolicyNote path text f note =
    (said words : List ℕ) × (more : Option (List ℕ)) × IsSaidOfPolicy text f said
    × (note ≡ note_lines (sources path [] []) (policy_place f) said words more)
