-- What more is said of a fault of a module, by the tokens of its text.
use Rattle.std.specs.Prelude.{◌≡◌, ◌⊎◌, ◌&&◌, ◌||◌, ℕ, Bool, false, not, nat_eq, bytes_eq, List, [], ◌∷◌, ◌++◌, length, codes, Option, Some, None, if◌then◌else◌}
use Rattle.strsim.specs.Edits.{levenshtein_row}
use Rattle.guard_model.specs.declared.site.Site.{Site}
use Rattle.guard_lexer.specs.Lexing.{Lexes, FirstFault}
use Rattle.guard_lexer.specs.declared.fault.LexFault.{LexFault}
use Rattle.guard_lexer.specs.declared.token.Token.{Token}
use Rattle.guard_lexer.specs.declared.token.TokenKind.{TokenKind}
use Rattle.guard_lexer.specs.declared.token.TokenKind.TheVariants as kind
use Rattle.guard_lexer.specs.declared.token.Mark.TheVariants as mark
use Rattle.guard_lexer.specs.declared.token.Reserved.TheVariants as reserved
use Rattle.guard_syntax.specs.declared.fault.SyntaxFault.{SyntaxFault}
use Rattle.guard_syntax.specs.declared.fault.SyntaxFault.TheVariants as syntax
use Rattle.guard_syntax.specs.Kinds.{same_kind}
use Rattle.guard_syntax.specs.Lexemes.{octets_of}
use Rattle.guard_names.specs.declared.fault.NameFault.{NameFault}
use Rattle.guard_names.specs.declared.fault.NameFault.TheVariants as name
use Rattle.guard_notes.specs.Marking.{columns}

-- These lines are said, by the tokens of a text; none of a text that has none.
abbrev pub ByTokens : ℕ → List ℕ → (List Token → List ℕ) → List ℕ → Type 0
ByTokens place text said lines =
    ((tokens : List Token) × Lexes place text tokens × (lines ≡ said tokens))
    ⊎ ((f : LexFault) × FirstFault place text f × (lines ≡ []))

abbrev pub is_at : Site → Token → Bool
is_at site t = nat_eq t.site.line site.line && nat_eq t.site.column site.column

-- the tokens from the place on
abbrev pub tokens_at : Site → List Token → List Token
tokens_at site [] = []
tokens_at site (t ∷ ts) = if is_at site t then t ∷ ts else tokens_at site ts

abbrev pub begins_with : TokenKind → List Token → Bool
begins_with k [] = false
begins_with k (t ∷ ts) = same_kind t.kind k

-- ---- a name that means nothing, and one that is near to it

-- the first two octets the other way round, and the same ones behind them
abbrev pub begin_swapped : List ℕ → List ℕ → Bool
begin_swapped (a ∷ b ∷ more) (c ∷ d ∷ others) = nat_eq a d && nat_eq b c && bytes_eq more others
begin_swapped _ _ = false

-- two neighbours the other way round, and else the same octets
abbrev pub are_swapped : List ℕ → List ℕ → Bool
are_swapped (a ∷ more) (b ∷ others) =
    if nat_eq a b then are_swapped more others else begin_swapped (a ∷ more) (b ∷ others)
are_swapped _ _ = false

-- one octet more, less or other, by the distance of Levenshtein, or two that are swapped
abbrev pub is_near : List ℕ → List ℕ → Bool
is_near a b = nat_eq (levenshtein_row nat_eq a b (length b)) 1 || are_swapped a b

-- In IMPORTS `,` or FROM comes behind the name of what is imported.
abbrev pub is_behind_imported : List Token → Bool
is_behind_imported ts = begins_with (kind.Mark mark.Comma) ts || begins_with (kind.Reserved reserved.From) ts

-- A name that begins with a capital letter, directly before `::=`: that of a type that is assigned, or of that of an
-- assigned value. In IMPORTS that of a type that is imported.
abbrev pub is_type_name : Bool → Token → List Token → Bool
is_type_name importing t ts =
    same_kind t.kind kind.UpperName
    && (begins_with (kind.Mark mark.Assignment) ts || (importing && is_behind_imported ts))

-- the tokens behind this one are in IMPORTS, which a semicolon ends
abbrev pub are_imports : Bool → Token → Bool
are_imports importing t =
    same_kind t.kind (kind.Reserved reserved.Imports)
    || (importing && not (same_kind t.kind (kind.Mark mark.Semicolon)))

-- the first such name that is near to this one
abbrev pub near_name : List ℕ → List ℕ → Bool → List Token → Option (List ℕ)
near_name text word importing [] = None
near_name text word importing (t ∷ ts) =
    if is_type_name importing t ts && is_near word (octets_of text t)
    then Some (octets_of text t)
    else near_name text word (are_imports importing t) ts

abbrev pub undefined_line : List ℕ → Option (List ℕ) → List ℕ
undefined_line word None = codes "  " ++ (columns word ++ codes "\n")
undefined_line word (Some other) = codes "  " ++ (columns word ++ (codes "; perhaps " ++ (columns other ++ codes "\n")))

-- of the tokens from the name on, and of all
abbrev pub undefined_among : List ℕ → List Token → List Token → List ℕ
undefined_among text [] all = []
undefined_among text (t ∷ ts) all = undefined_line (octets_of text t) (near_name text (octets_of text t) false all)

abbrev pub undefined_lines : List ℕ → Site → List Token → List ℕ
undefined_lines text site tokens = undefined_among text (tokens_at site tokens) tokens

-- where the grammar goes no further
abbrev pub site_of_syntax : SyntaxFault → Option Site
site_of_syntax (syntax.Unexpected site) = Some site
site_of_syntax (syntax.Unsupported spelling site) = None
site_of_syntax (syntax.TooDeep site) = None
site_of_syntax syntax.OutOfMemory = None

-- where a fault of names is that tokens say more of
abbrev pub site_of_name : NameFault → Option Site
site_of_name (name.Undefined site) = Some site
site_of_name (name.Duplicate site) = None
site_of_name (name.NoModule site) = None
site_of_name (name.NotExported site) = None
site_of_name (name.ImportNotDefined site) = None
site_of_name (name.Recursive site) = None
site_of_name name.TooManyModules = None
site_of_name name.OutOfMemory = None
