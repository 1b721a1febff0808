-- In a module that is written with the tokens of a text, the names of components, alternatives, items and named bits
-- are identifiers.
use Rattle.std.proofs.Common.{ℕ, List, [], ◌∷◌, map, sym, subst}
use Rattle.std.specs.List.{AllByRecursion}
use Rattle.guard_lexer.specs.declared.token.Token.{Token}
use Rattle.guard_lexer.specs.declared.token.TokenKind.TheVariants as kind
use Rattle.guard_lexer.specs.Lexing.{Lexes}
use Rattle.guard_lexer.specs.Spans.{IsSpelled, AreSpans}
use Rattle.guard_lexer.proofs.SpelledTokens.{are_spans}
use Rattle.guard_syntax.specs.Lexemes.{lexemes_of}
use Rattle.guard_syntax.specs.NamesInTypes.{EachNamed, EachItem, EachIn, EachInside, EachComponent, EachAlternative}
use Rattle.guard_syntax.specs.NamesInTypes.{EachAssigned}
use Rattle.guard_syntax.specs.Parses.{IsWritten}
use Rattle.guard_syntax.specs.Trees.{WrittenNamed, WrittenItem, WrittenType, WrittenBase, WrittenComponents}
use Rattle.guard_syntax.specs.Trees.{WrittenAlternatives, WrittenAssignment, WrittenModule}
use Rattle.guard_syntax.proofs.SpelledNames.{names_in_types}
use Rattle.reads_back.specs.Names.{IsIdentifier}

abbrev pub AreIdentifiers : List (List ℕ) → Type 0
AreIdentifiers = AllByRecursion IsIdentifier

-- ---- names in trees

-- the names of its parts are identifiers; of their digits it is said only that they are a number's
abbrev pub IsNamed : WrittenType → Type 0
IsNamed = EachIn IsIdentifier (IsSpelled kind.Number)

abbrev pub IsNamedInside : WrittenBase → Type 0
IsNamedInside = EachInside IsIdentifier (IsSpelled kind.Number)

abbrev pub AreNamed : List WrittenNamed → Type 0
AreNamed = EachNamed IsIdentifier (IsSpelled kind.Number)

abbrev pub AreNamedItems : List WrittenItem → Type 0
AreNamedItems = EachItem IsIdentifier (IsSpelled kind.Number)

abbrev pub AreNamedComponents : WrittenComponents → Type 0
AreNamedComponents = EachComponent IsIdentifier (IsSpelled kind.Number)

abbrev pub AreNamedAlternatives : WrittenAlternatives → Type 0
AreNamedAlternatives = EachAlternative IsIdentifier (IsSpelled kind.Number)

abbrev pub AreNamedAssignments : List WrittenAssignment → Type 0
AreNamedAssignments = EachAssigned IsIdentifier (IsSpelled kind.Number)

abbrev pub IsNamedModule : WrittenModule → Type 0
IsNamedModule m = AreNamedAssignments m.assignments

pub named_identifiers : (ns : List WrittenNamed) → AreNamed ns → AreIdentifiers (map (λ n. n.name) ns)
named_identifiers [] h = tt
named_identifiers (n ∷ ns) h = (h.0, named_identifiers ns h.2)

pub item_identifiers : (items : List WrittenItem) → AreNamedItems items → AreIdentifiers (map (λ i. i.name) items)
item_identifiers [] h = tt
item_identifiers (i ∷ items) h = (h.0, item_identifiers items h.2)

pub module_named : (place : ℕ) (text : List ℕ) (tokens : List Token) (m : WrittenModule) → Lexes place text tokens
    → IsWritten m (lexemes_of text tokens) → IsNamedModule m
module_named place text tokens m l w =
    let spans : AreSpans text tokens =
    subst (AreSpans text) (sym l.tokens_are) (are_spans place text l.items l.cut) in
    names_in_types text tokens m spans w (λ s h. h) (λ s h. h)
