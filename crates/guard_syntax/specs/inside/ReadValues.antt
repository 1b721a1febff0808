-- Reading values.
use Rattle.std.specs.Prelude.{ℕ, zero, suc, Bool, true, false, ◌||◌, ◌&&◌, ◌==◌, not, if◌then◌else◌, List, [], ◌∷◌, length, Option, Some, None, Ok}
use Rattle.guard_model.specs.Answer.{◌>>=◌}
use Rattle.guard_lexer.specs.declared.token.TokenKind.TheVariants.{Reserved, LowerName, Number, CharacterString, BitString, HexadecimalString, Mark}
use Rattle.guard_lexer.specs.declared.token.Reserved.TheVariants.{False, Null, True}
use Rattle.guard_lexer.specs.declared.token.Mark.TheVariants.{Colon, LeftBrace, LeftParenthesis, Minus, RightBrace}
use Rattle.guard_syntax.specs.declared.tree.StringKind.{StringKind}
use Rattle.guard_syntax.specs.declared.tree.StringKind.TheVariants as string
use Rattle.guard_syntax.specs.Trees.{WrittenArc, WrittenValue, value_node, WrittenValueForm, boolean, null, integer, text, reference, chosen, list, arcs, WrittenEntry, entries_of}
use Rattle.guard_syntax.specs.inside.ReadTokens.{Placed, Reader, begins_with, behind, site_at, unexpected, too_deep, read_token, read_spelling, read_each, read_parted, read_number, read_arc}

-- which string is written
abbrev pub string_at : List Placed → Option StringKind
string_at ps =
    if begins_with CharacterString ps then Some string.Characters
    else (if begins_with BitString ps then Some string.Bits
    else (if begins_with HexadecimalString ps then Some string.Hexadecimal
    else None))

abbrev pub is_there : {A : Type 0} → Option A → Bool
is_there None = false
is_there (Some a) = true

abbrev pub begins_number : List Placed → Bool
begins_number ps = begins_with (Mark Minus) ps || begins_with Number ps

abbrev pub begins_value : List Placed → Bool
begins_value ps =
    begins_with (Reserved True) ps || begins_with (Reserved False) ps || begins_with (Reserved Null) ps
    || begins_number ps
    || is_there (string_at ps) || begins_with LowerName ps || begins_with (Mark LeftBrace) ps

-- what follows an opening brace are arcs: a number and then a number or name, or a name and then a parenthesis
abbrev pub begins_arcs : List Placed → Bool
begins_arcs ps =
    begins_with Number ps && (begins_with Number (behind ps) || begins_with LowerName (behind ps))
    || begins_with LowerName ps && begins_with (Mark LeftParenthesis) (behind ps)

-- the name before a value, where there is one
unfoldable pub read_entry_name : Reader (Option (List ℕ))
read_entry_name ps =
    if begins_with LowerName ps
    then (if begins_value (behind ps) then (read_spelling LowerName ps >>= λ name. Ok (Some name.0, name.1))
    else Ok (None, ps))
    else Ok (None, ps)

unfoldable pub read_entry : Reader WrittenValue → Reader WrittenEntry
read_entry values ps = do
  name ← read_entry_name ps
  v ← values name.1
  Ok (record { site = site_at ps; name = name.0; value = v.0 }, v.1)

-- Entries, up to the closing brace. Where no value is allowed in the braces the first entry is too deep, with its name
-- if it has one.
unfoldable pub read_entries : ℕ → Reader WrittenValue → Reader (List WrittenEntry)
read_entries levels values ps =
    if begins_with (Mark RightBrace) ps then Ok ([], ps)
    else (if levels == 0 then too_deep (begins_value ps) ps
    else read_parted (read_entry values) (length ps) ps)

abbrev pub does_not_close : List Placed → Bool
does_not_close ps = not (begins_with (Mark RightBrace) ps)

-- a number alone is a list of values, and no object identifier
abbrev pub are_arcs : List WrittenArc → Bool
are_arcs [] = false
are_arcs (a ∷ []) = is_there a.name
are_arcs (a ∷ b ∷ others) = true

unfoldable pub read_arcs : Reader (List WrittenArc)
read_arcs ps =
    read_each does_not_close read_arc (length ps) ps >>= λ all. if are_arcs all.0 then Ok all else unexpected ps

unfoldable pub read_braces : ℕ → Reader WrittenValue → Reader WrittenValueForm
read_braces levels values ps =
    read_token (Mark LeftBrace) ps >>= λ opening.
    if begins_arcs opening
    then (read_arcs opening >>= λ all. read_token (Mark RightBrace) all.1 >>= λ closing. Ok (arcs all.0, closing))
    else (read_entries levels values opening >>= λ all. read_token (Mark RightBrace) all.1 >>= λ closing.
    Ok (list (entries_of all.0), closing))

-- a name, or a chosen alternative
unfoldable pub read_name : Reader WrittenValue → Reader WrittenValueForm
read_name values ps =
    read_spelling LowerName ps >>= λ name.
    if begins_with (Mark Colon) name.1 then (values (behind name.1) >>= λ v. Ok (chosen name.0 v.0, v.1))
    else Ok (reference name.0, name.1)

unfoldable pub read_integer_form : Reader WrittenValueForm
read_integer_form ps = read_number ps >>= λ n. Ok (integer n.0, n.1)

unfoldable pub read_string : Reader WrittenValueForm
read_string ps =
    if begins_with CharacterString ps
    then (read_spelling CharacterString ps >>= λ s. Ok (text string.Characters s.0, s.1))
    else (if begins_with BitString ps then (read_spelling BitString ps >>= λ s. Ok (text string.Bits s.0, s.1))
    else (read_spelling HexadecimalString ps >>= λ s. Ok (text string.Hexadecimal s.0, s.1)))

unfoldable pub read_value_form : ℕ → Reader WrittenValue → Reader WrittenValueForm
read_value_form levels values ps =
    if begins_with (Reserved True) ps then Ok (boolean true, behind ps)
    else (if begins_with (Reserved False) ps then Ok (boolean false, behind ps)
    else (if begins_with (Reserved Null) ps then Ok (null, behind ps)
    else (if begins_number ps then read_integer_form ps
    else (if begins_with LowerName ps then read_name values ps
    else (if begins_with (Mark LeftBrace) ps then read_braces levels values ps
    else (read_string ps))))))

-- A value. The number says how deep types, values and sets may be nested here.
unfoldable pub read_value : ℕ → Reader WrittenValue
read_value zero ps = too_deep (begins_value ps) ps
read_value (suc levels) ps =
    read_value_form levels (read_value levels) ps >>= λ form. Ok (value_node (site_at ps) form.0, form.1)
