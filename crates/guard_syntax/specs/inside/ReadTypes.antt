-- Reading types.
use Rattle.std.specs.Prelude.{ℕ, zero, suc, Bool, true, false, ◌||◌, if◌then◌else◌, List, [], length, Option, Some, None, Ok}
use Rattle.guard_model.specs.Answer.{◌>>=◌}
use Rattle.guard_lexer.specs.declared.token.TokenKind.TheVariants.{Reserved, UpperName, LowerName, Number, Mark}
use Rattle.guard_lexer.specs.declared.token.Reserved.TheVariants.{Application, Bit, Boolean, Choice, Components, Default, Enumerated, Explicit, Ia5String, Identifier, Implicit, Integer, Null, NumericString, Object, Octet, Of, Optional, PrintableString, Private, Sequence, Set, Size, String, Universal, Utf8String, VisibleString}
use Rattle.guard_lexer.specs.declared.token.Mark.TheVariants.{LeftBrace, LeftBracket, LeftParenthesis, RightBrace, RightBracket, RightParenthesis}
use Rattle.guard_syntax.specs.declared.tree.TagClass.{TagClass}
use Rattle.guard_syntax.specs.declared.tree.TagClass.TheVariants as class
use Rattle.guard_syntax.specs.declared.tree.TagMode.{TagMode}
use Rattle.guard_syntax.specs.declared.tree.TagMode.TheVariants as mode
use Rattle.guard_syntax.specs.declared.tree.PlainType.{PlainType}
use Rattle.guard_syntax.specs.declared.tree.PlainType.TheVariants as plain_type
use Rattle.guard_syntax.specs.declared.tree.Collection.{Collection}
use Rattle.guard_syntax.specs.declared.tree.Collection.TheVariants as collection
use Rattle.guard_syntax.specs.Trees.{WrittenNumber, WrittenValue, WrittenSet, WrittenConstraint, WrittenTag, WrittenNamed, WrittenItem, WrittenOfConstraint, WrittenPresence, mandatory, optional, default, WrittenType, type_node, WrittenBase, plain, numbers, named_bits, enumerated, structure, choice, of_type, named_type, WrittenComponentForm, named, components_of_type, WrittenComponent, components_of, WrittenAlternative, alternatives_of}
use Rattle.guard_syntax.specs.inside.ReadTokens.{Placed, Reader, begins_with, behind, behind_if, site_at, too_deep, read_token, read_spelling, read_each, read_parted, read_number, read_unsigned}
use Rattle.guard_syntax.specs.inside.ReadValues.{is_there, read_value}
use Rattle.guard_syntax.specs.inside.ReadSets.{read_constraint, read_set}

-- ---- tags

abbrev pub class_at : List Placed → Option TagClass
class_at ps =
    if begins_with (Reserved Universal) ps then Some class.Universal
    else (if begins_with (Reserved Application) ps then Some class.Application
    else (if begins_with (Reserved Private) ps then Some class.Private
    else None))

abbrev pub mode_at : List Placed → Option TagMode
mode_at ps =
    if begins_with (Reserved Implicit) ps then Some mode.Implicit
    else (if begins_with (Reserved Explicit) ps then Some mode.Explicit
    else None)

unfoldable pub read_tag : Reader WrittenTag
read_tag ps = do
  opening ← read_token (Mark LeftBracket) ps
  number ← read_spelling Number (behind_if (is_there (class_at opening)) opening)
  closing ← read_token (Mark RightBracket) number.1
  Ok (
    record {
      site = site_at ps;
      class = class_at opening;
      number = number.0;
      mode = mode_at closing;
    },
    behind_if (is_there (mode_at closing)) closing,
  )

abbrev pub begins_tag : List Placed → Bool
begins_tag ps = begins_with (Mark LeftBracket) ps

abbrev pub begins_constraint : List Placed → Bool
begins_constraint ps = begins_with (Mark LeftParenthesis) ps

-- ---- named numbers, named bits and items

-- a number in parentheses
unfoldable pub read_in_parentheses : Reader WrittenNumber → Reader WrittenNumber
read_in_parentheses read ps = do
  opening ← read_token (Mark LeftParenthesis) ps
  n ← read opening
  closing ← read_token (Mark RightParenthesis) n.1
  Ok (n.0, closing)

unfoldable pub read_named : Reader WrittenNumber → Reader WrittenNamed
read_named read ps = do
  name ← read_spelling LowerName ps
  n ← read_in_parentheses read name.1
  Ok (record { site = site_at ps; name = name.0; number = n.0 }, n.1)

unfoldable pub read_item_number : Reader (Option WrittenNumber)
read_item_number ps =
    if begins_with (Mark LeftParenthesis) ps then (read_in_parentheses read_number ps >>= λ n. Ok (Some n.0, n.1))
    else Ok (None, ps)

unfoldable pub read_item : Reader WrittenItem
read_item ps = do
  name ← read_spelling LowerName ps
  n ← read_item_number name.1
  Ok (record { site = site_at ps; name = name.0; number = n.0 }, n.1)

-- In braces the names with numbers after INTEGER or BIT STRING. Where no brace follows there is none.
unfoldable pub read_numbers : Reader WrittenNumber → Reader (List WrittenNamed)
read_numbers read ps =
    if begins_with (Mark LeftBrace) ps
    then (read_parted (read_named read) (length (behind ps)) (behind ps)
    >>= λ all. read_token (Mark RightBrace) all.1 >>= λ closing. Ok (all.0, closing))
    else Ok ([], ps)

-- after ENUMERATED
unfoldable pub read_items : Reader (List WrittenItem)
read_items ps = do
  opening ← read_token (Mark LeftBrace) ps
  all ← read_parted read_item (length opening) opening
  closing ← read_token (Mark RightBrace) all.1
  Ok (all.0, closing)

-- ---- types written with words alone

-- one that is a single word
abbrev pub single_word_at : List Placed → Option PlainType
single_word_at ps =
    if begins_with (Reserved Boolean) ps then Some plain_type.Boolean
    else (if begins_with (Reserved Null) ps then Some plain_type.Null
    else (if begins_with (Reserved Utf8String) ps then Some plain_type.Utf8String
    else (if begins_with (Reserved NumericString) ps then Some plain_type.NumericString
    else (if begins_with (Reserved PrintableString) ps then Some plain_type.PrintableString
    else (if begins_with (Reserved Ia5String) ps then Some plain_type.Ia5String
    else (if begins_with (Reserved VisibleString) ps then Some plain_type.VisibleString
    else None))))))

abbrev pub begins_two_words : List Placed → Bool
begins_two_words ps = begins_with (Reserved Octet) ps || begins_with (Reserved Object) ps

unfoldable pub read_two_words : Reader PlainType
read_two_words ps =
    if begins_with (Reserved Octet) ps
    then (read_token (Reserved String) (behind ps) >>= λ rest. Ok (plain_type.OctetString, rest))
    else (read_token (Reserved Object) ps >>= λ rest. read_token (Reserved Identifier) rest >>= λ rest.
    Ok (plain_type.ObjectIdentifier, rest))

-- ---- components and alternatives

unfoldable pub read_presence : Reader WrittenValue → Reader WrittenPresence
read_presence values ps =
    if begins_with (Reserved Optional) ps then Ok (optional, behind ps)
    else (if begins_with (Reserved Default) ps then (values (behind ps) >>= λ v. Ok (default v.0, v.1))
    else Ok (mandatory, ps))

unfoldable pub read_component_form : Reader WrittenValue → Reader WrittenType → Reader WrittenComponentForm
read_component_form values types ps =
    if begins_with (Reserved Components) ps
    then (read_token (Reserved Of) (behind ps) >>= λ rest. types rest >>= λ ty. Ok (components_of_type ty.0, ty.1))
    else (read_spelling LowerName ps >>= λ name. types name.1 >>= λ ty. read_presence values ty.1 >>= λ p.
    Ok (named name.0 ty.0 p.0, p.1))

unfoldable pub read_component : Reader WrittenValue → Reader WrittenType → Reader WrittenComponent
read_component values types ps =
    read_component_form values types ps >>= λ form. Ok (record { site = site_at ps; form = form.0 }, form.1)

-- components, up to the closing brace
unfoldable pub read_components : Reader WrittenValue → Reader WrittenType → Reader (List WrittenComponent)
read_components values types ps =
    if begins_with (Mark RightBrace) ps then Ok ([], ps) else read_parted (read_component values types) (length ps) ps

unfoldable pub read_alternative : Reader WrittenType → Reader WrittenAlternative
read_alternative types ps = do
  name ← read_spelling LowerName ps
  ty ← types name.1
  Ok (record { site = site_at ps; name = name.0; ty = ty.0 }, ty.1)

-- ---- bases

unfoldable pub read_choice : Reader WrittenType → Reader WrittenBase
read_choice types ps = do
  opening ← read_token (Mark LeftBrace) ps
  all ← read_parted (read_alternative types) (length opening) opening
  closing ← read_token (Mark RightBrace) all.1
  Ok (choice (alternatives_of all.0), closing)

unfoldable pub read_structure : Collection → Reader WrittenValue → Reader WrittenType → Reader WrittenBase
read_structure k values types ps = do
  opening ← read_token (Mark LeftBrace) ps
  all ← read_components values types opening
  closing ← read_token (Mark RightBrace) all.1
  Ok (structure k (components_of all.0), closing)

-- the constraint before OF
unfoldable pub read_of_constraint : Reader WrittenSet → Reader (Option WrittenOfConstraint)
read_of_constraint sets ps =
    let size = begins_with (Reserved Size) ps in
    if size || begins_constraint ps
    then (read_constraint sets (behind_if size ps) >>= λ c.
    Ok (Some (record { site = site_at ps; size = size; constraint = c.0 }), c.1))
    else Ok (None, ps)

unfoldable pub read_of : Collection → Reader WrittenSet → Reader WrittenType → Reader WrittenBase
read_of k sets types ps = do
  c ← read_of_constraint sets ps
  of ← read_token (Reserved Of) c.1
  ty ← types of
  Ok (of_type k c.0 ty.0, ty.1)

-- after SEQUENCE or SET
unfoldable pub read_collection : Collection → Reader WrittenValue → Reader WrittenSet → Reader WrittenType
    → Reader WrittenBase
read_collection k values sets types ps =
    if begins_with (Mark LeftBrace) ps then read_structure k values types ps else read_of k sets types ps

-- a type that is a single word, or the name of a type
abbrev pub plain_or_name : Option PlainType → Reader WrittenBase
plain_or_name None ps = read_spelling UpperName ps >>= λ name. Ok (named_type (site_at ps) name.0, name.1)
plain_or_name (Some p) ps = Ok (plain p, behind ps)

unfoldable pub read_word_or_name : Reader WrittenBase
read_word_or_name ps = plain_or_name (single_word_at ps) ps

-- after BIT
unfoldable pub read_bit_string : Reader WrittenBase
read_bit_string ps =
    read_token (Reserved String) ps >>= λ rest. read_numbers read_unsigned rest >>= λ all. Ok (named_bits all.0, all.1)

-- a base with no type inside
unfoldable pub read_simple : Reader WrittenBase
read_simple ps =
    if begins_two_words ps then (read_two_words ps >>= λ p. Ok (plain p.0, p.1))
    else (if begins_with (Reserved Integer) ps
    then (read_numbers read_number (behind ps) >>= λ all. Ok (numbers all.0, all.1))
    else (if begins_with (Reserved Bit) ps then read_bit_string (behind ps)
    else (if begins_with (Reserved Enumerated) ps then (read_items (behind ps) >>= λ all. Ok (enumerated all.0, all.1))
    else (read_word_or_name ps))))

unfoldable pub read_base : Reader WrittenValue → Reader WrittenSet → Reader WrittenType → Reader WrittenBase
read_base values sets types ps =
    if begins_with (Reserved Sequence) ps then read_collection collection.Sequence values sets types (behind ps)
    else (if begins_with (Reserved Set) ps then read_collection collection.Set values sets types (behind ps)
    else (if begins_with (Reserved Choice) ps then read_choice types (behind ps)
    else (read_simple ps)))

-- Constraints after an OF type belong to the type of its elements.
abbrev pub is_of : WrittenBase → Bool
is_of (of_type k c ty) = true
is_of base = false

unfoldable pub read_constraints : Reader WrittenSet → Bool → Reader (List WrittenConstraint)
read_constraints sets of ps =
    if of then Ok ([], ps) else read_each begins_constraint (read_constraint sets) (length ps) ps

abbrev pub begins_type : List Placed → Bool
begins_type ps =
    begins_tag ps || is_there (single_word_at ps) || begins_two_words ps || begins_with (Reserved Integer) ps
    || begins_with (Reserved Bit) ps
    || begins_with (Reserved Enumerated) ps || begins_with (Reserved Sequence) ps || begins_with (Reserved Set) ps
    || begins_with (Reserved Choice) ps || begins_with UpperName ps

-- a type with what is inside
unfoldable pub read_inner_type : Reader WrittenValue → Reader WrittenSet → Reader WrittenType → Reader WrittenType
read_inner_type values sets types ps = do
  tags ← read_each begins_tag read_tag (length ps) ps
  base ← read_base values sets types tags.1
  constraints ← read_constraints sets (is_of base.0) base.1
  Ok (type_node (site_at ps) tags.0 base.0 constraints.0, constraints.1)

-- A type. The number says how deep types, values and sets may be nested here.
unfoldable pub read_type : ℕ → Reader WrittenType
read_type zero ps = too_deep (begins_type ps) ps
read_type (suc levels) ps = read_inner_type (read_value levels) (read_set levels) (read_type levels) ps
