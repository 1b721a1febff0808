-- Written types whose names and numbers are tokens: names are texts, and the numbers of items, named numbers and named
-- bits have 128 bits at most.
use Rattle.std.specs.Prelude.{ℕ, ◌<◌, ◌^◌, List, IsUtf8}
use Rattle.guard_lexer.specs.Items.{number_value}
use Rattle.guard_syntax.specs.Trees.{WrittenNumber, WrittenNamed, WrittenItem, WrittenType, WrittenBase, WrittenComponents, WrittenAlternatives, WrittenAssignment, WrittenModule}
use Rattle.guard_syntax.specs.Lexemes.{lexemes_of}
use Rattle.guard_syntax.specs.NamesInTypes.{EachNamed, EachItem, EachIn, EachInside, EachComponent, EachAlternative, EachAssigned}
use Rattle.guard_syntax.specs.Parses.{IsWritten}
use Rattle.guard_lexer.specs.declared.token.Token.{Token}

abbrev pub AreShort : List ℕ → Type 0
AreShort digits = number_value digits < 2 ^ 128

abbrev pub IsShort : WrittenNumber → Type 0
IsShort n = AreShort n.digits

abbrev pub AreNamed : List WrittenNamed → Type 0
AreNamed = EachNamed IsUtf8 AreShort

abbrev pub AreItems : List WrittenItem → Type 0
AreItems = EachItem IsUtf8 AreShort

abbrev pub IsSpelled : WrittenType → Type 0
IsSpelled = EachIn IsUtf8 AreShort

abbrev pub IsSpelledInside : WrittenBase → Type 0
IsSpelledInside = EachInside IsUtf8 AreShort

abbrev pub AreSpelled : WrittenComponents → Type 0
AreSpelled = EachComponent IsUtf8 AreShort

abbrev pub AreSpelledOthers : WrittenAlternatives → Type 0
AreSpelledOthers = EachAlternative IsUtf8 AreShort

-- ---- modules

abbrev pub AreAssigned : List WrittenAssignment → Type 0
AreAssigned = EachAssigned IsUtf8 AreShort

abbrev pub IsSpelledModule : WrittenModule → Type 0
IsSpelledModule m = AreAssigned m.assignments

-- where a text is cut into these tokens, each spelled as its kind says, a module that is written with them is spelled
-- so
abbrev pub SpelledByTokens : List ℕ → List Token → Type 0
SpelledByTokens text tokens = (m : WrittenModule) → IsWritten m (lexemes_of text tokens) → IsSpelledModule m
