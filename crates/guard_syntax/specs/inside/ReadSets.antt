-- Reading sets of values and constraints.
use Rattle.std.specs.Prelude.{ℕ, zero, suc, Bool, true, false, ◌||◌, ◌&&◌, not, if◌then◌else◌, List, length, Option, Some, None, Ok}
use Rattle.guard_model.specs.Answer.{◌>>=◌}
use Rattle.guard_lexer.specs.declared.token.TokenKind.TheVariants.{Reserved, UpperName, LowerName, Number, CharacterString, Mark}
use Rattle.guard_lexer.specs.declared.token.Reserved.{Reserved as ReservedWord}
use Rattle.guard_lexer.specs.declared.token.Reserved.TheVariants.{Absent, All, Component, Components, Except, From, Includes, Intersection, Max, Min, Optional, Present, Size, Union, With}
use Rattle.guard_lexer.specs.declared.token.Mark.TheVariants.{Bar, Caret, Comma, Ellipsis, LeftBrace, LeftParenthesis, LessThan, Minus, RangeSeparator, RightBrace, RightParenthesis}
use Rattle.guard_syntax.specs.declared.tree.JoinMark.{JoinMark}
use Rattle.guard_syntax.specs.declared.tree.JoinMark.TheVariants as join
use Rattle.guard_syntax.specs.declared.tree.PresenceWord.{PresenceWord}
use Rattle.guard_syntax.specs.declared.tree.PresenceWord.TheVariants as presence
use Rattle.guard_syntax.specs.Trees.{WrittenValue, WrittenEndForm, end_integer, end_reference, end_characters, WrittenEnd, WrittenRange, WrittenSet, set_node, WrittenSetForm, all_except, union, WrittenJoinedIntersection, united_of, WrittenIntersection, intersection, WrittenJoinedDifference, met_of, WrittenDifference, difference_of, WrittenElement, element_node, WrittenElementForm, parentheses, value, contained, range, size, from, with_component, with_components, WrittenConstraint, constraint, WrittenPart, parts_of}
use Rattle.guard_syntax.specs.inside.ReadTokens.{Placed, Reader, begins_with, behind, behind_if, site_at, too_deep, read_token, read_spelling, read_each, read_parted, begins_with_zero, read_number}
use Rattle.guard_syntax.specs.inside.ReadValues.{is_there, begins_number, begins_value, read_value}

-- ---- ranges

abbrev pub begins_dots : List Placed → Bool
begins_dots ps = begins_with (Mark RangeSeparator) ps || begins_with (Mark LessThan) ps

-- a number that may follow a minus sign
abbrev pub begins_with_nonzero : List Placed → Bool
begins_with_nonzero ps = begins_with Number ps && not (begins_with_zero ps)

-- a range, and no value: MIN, or an end with `..` or `<` after it
abbrev pub begins_range : List Placed → Bool
begins_range ps =
    begins_with (Reserved Min) ps
    || begins_with (Mark Minus) ps && begins_dots (behind (behind ps)) && begins_with_nonzero (behind ps)
    || (begins_with Number ps || begins_with LowerName ps || begins_with CharacterString ps) && begins_dots (behind ps)

unfoldable pub read_end_form : Reader WrittenEndForm
read_end_form ps =
    if begins_number ps then (read_number ps >>= λ n. Ok (end_integer n.0, n.1))
    else (if begins_with LowerName ps then (read_spelling LowerName ps >>= λ name. Ok (end_reference name.0, name.1))
    else (read_spelling CharacterString ps >>= λ s. Ok (end_characters s.0, s.1)))

-- an end, or this word
unfoldable pub read_end_or : ReservedWord → Reader (Option WrittenEnd)
read_end_or w ps =
    if begins_with (Reserved w) ps then Ok (None, behind ps)
    else (read_end_form ps >>= λ form. Ok (Some (record { site = site_at ps; form = form.0 }), form.1))

unfoldable pub read_range : Reader WrittenRange
read_range ps = do
  low ← read_end_or Min ps
  dots ← read_token (Mark RangeSeparator) (behind_if (begins_with (Mark LessThan) low.1) low.1)
  high ← read_end_or Max (behind_if (begins_with (Mark LessThan) dots) dots)
  Ok (
    record {
      low = low.0;
      above_low = begins_with (Mark LessThan) low.1;
      below_high = begins_with (Mark LessThan) dots;
      high = high.0;
    },
    high.1,
  )

-- ---- elements

abbrev pub begins_element : List Placed → Bool
begins_element ps =
    begins_with (Mark LeftParenthesis) ps || begins_with UpperName ps || begins_with (Reserved Includes) ps
    || begins_with (Reserved Min) ps
    || begins_with (Reserved Size) ps || begins_with (Reserved From) ps || begins_with (Reserved With) ps
    || begins_value ps

abbrev pub begins_set : List Placed → Bool
begins_set ps = begins_with (Reserved All) ps || begins_element ps

unfoldable pub read_constraint : Reader WrittenSet → Reader WrittenConstraint
read_constraint sets ps = do
  opening ← read_token (Mark LeftParenthesis) ps
  set ← sets opening
  closing ← read_token (Mark RightParenthesis) set.1
  Ok (constraint (site_at ps) set.0, closing)

unfoldable pub read_parentheses : Reader WrittenSet → Reader WrittenElementForm
read_parentheses sets ps = do
  opening ← read_token (Mark LeftParenthesis) ps
  set ← sets opening
  closing ← read_token (Mark RightParenthesis) set.1
  Ok (parentheses set.0, closing)

unfoldable pub read_contained : Reader WrittenElementForm
read_contained ps =
    let includes = begins_with (Reserved Includes) ps in
    read_spelling UpperName (behind_if includes ps) >>= λ name.
    Ok (contained includes (site_at (behind_if includes ps)) name.0, name.1)

abbrev pub presence_at : List Placed → Option PresenceWord
presence_at ps =
    if begins_with (Reserved Present) ps then Some presence.Present
    else (if begins_with (Reserved Absent) ps then Some presence.Absent
    else (if begins_with (Reserved Optional) ps then Some presence.Optional
    else None))

-- what comes before a presence word
unfoldable pub read_perhaps_constraint : Reader WrittenSet → Reader (Option WrittenConstraint)
read_perhaps_constraint sets ps =
    if begins_with (Mark LeftParenthesis) ps then (read_constraint sets ps >>= λ c. Ok (Some c.0, c.1))
    else Ok (None, ps)

unfoldable pub read_part : Reader WrittenSet → Reader WrittenPart
read_part sets ps = do
  name ← read_spelling LowerName ps
  c ← read_perhaps_constraint sets name.1
  Ok (
    record {
      site = site_at ps;
      name = name.0;
      constraint = c.0;
      presence = presence_at c.1;
    },
    behind_if (is_there (presence_at c.1)) c.1,
  )

-- "..." and a comma, where there are both
unfoldable pub read_partial : Reader Bool
read_partial ps =
    if begins_with (Mark Ellipsis) ps then (read_token (Mark Comma) (behind ps) >>= λ comma. Ok (true, comma))
    else Ok (false, ps)

unfoldable pub read_with_components : Reader WrittenSet → Reader WrittenElementForm
read_with_components sets ps = do
  opening ← read_token (Mark LeftBrace) ps
  partial ← read_partial opening
  parts ← read_parted (read_part sets) (length partial.1) partial.1
  closing ← read_token (Mark RightBrace) parts.1
  Ok (with_components partial.0 (parts_of parts.0), closing)

unfoldable pub read_inner_type_constraints : Reader WrittenSet → Reader WrittenElementForm
read_inner_type_constraints sets ps =
    read_token (Reserved With) ps >>= λ behind_with.
    if begins_with (Reserved Component) behind_with
    then (read_constraint sets (behind behind_with) >>= λ c. Ok (with_component c.0, c.1))
    else (read_token (Reserved Components) behind_with >>= λ behind_components.
    read_with_components sets behind_components)

-- a range or a single value
unfoldable pub read_range_or_value : Reader WrittenValue → Reader WrittenElementForm
read_range_or_value values ps =
    if begins_range ps then (read_range ps >>= λ r. Ok (range r.0, r.1))
    else (values ps >>= λ v. Ok (value v.0, v.1))

unfoldable pub read_element_form : Reader WrittenValue → Reader WrittenSet → Reader WrittenElementForm
read_element_form values sets ps =
    if begins_with (Mark LeftParenthesis) ps then read_parentheses sets ps
    else (if begins_with (Reserved Includes) ps || begins_with UpperName ps then read_contained ps
    else (if begins_with (Reserved Size) ps then (read_constraint sets (behind ps) >>= λ c. Ok (size c.0, c.1))
    else (if begins_with (Reserved From) ps then (read_constraint sets (behind ps) >>= λ c. Ok (from c.0, c.1))
    else (if begins_with (Reserved With) ps then read_inner_type_constraints sets ps
    else (read_range_or_value values ps)))))

unfoldable pub read_element : Reader WrittenValue → Reader WrittenSet → Reader WrittenElement
read_element values sets ps = read_element_form values sets ps >>= λ form. Ok (element_node (site_at ps) form.0, form.1)

-- ---- sets

unfoldable pub read_except : Reader WrittenValue → Reader WrittenSet → Reader (Option WrittenElement)
read_except values sets ps =
    if begins_with (Reserved Except) ps then (read_element values sets (behind ps) >>= λ e. Ok (Some e.0, e.1))
    else Ok (None, ps)

unfoldable pub read_difference : Reader WrittenValue → Reader WrittenSet → Reader WrittenDifference
read_difference values sets ps = do
  one ← read_element values sets ps
  other ← read_except values sets one.1
  Ok (difference_of (site_at ps) one.0 other.0, other.1)

abbrev pub begins_intersection_mark : List Placed → Bool
begins_intersection_mark ps = begins_with (Mark Caret) ps || begins_with (Reserved Intersection) ps

abbrev pub begins_union_mark : List Placed → Bool
begins_union_mark ps = begins_with (Mark Bar) ps || begins_with (Reserved Union) ps

unfoldable pub read_intersection_mark : Reader JoinMark
read_intersection_mark ps =
    if begins_with (Reserved Intersection) ps then Ok (join.Word, behind ps)
    else (read_token (Mark Caret) ps >>= λ rest. Ok (join.Sign, rest))

unfoldable pub read_union_mark : Reader JoinMark
read_union_mark ps =
    if begins_with (Reserved Union) ps then Ok (join.Word, behind ps)
    else (read_token (Mark Bar) ps >>= λ rest. Ok (join.Sign, rest))

unfoldable pub read_joined_difference : Reader WrittenValue → Reader WrittenSet → Reader WrittenJoinedDifference
read_joined_difference values sets ps = do
  m ← read_intersection_mark ps
  d ← read_difference values sets m.1
  Ok (record { mark = m.0; joined = d.0 }, d.1)

unfoldable pub read_intersection : Reader WrittenValue → Reader WrittenSet → Reader WrittenIntersection
read_intersection values sets ps = do
  one ← read_difference values sets ps
  others ← read_each begins_intersection_mark (read_joined_difference values sets) (length one.1) one.1
  Ok (intersection (site_at ps) one.0 (met_of others.0), others.1)

unfoldable pub read_joined_intersection : Reader WrittenValue → Reader WrittenSet → Reader WrittenJoinedIntersection
read_joined_intersection values sets ps = do
  m ← read_union_mark ps
  i ← read_intersection values sets m.1
  Ok (record { mark = m.0; joined = i.0 }, i.1)

unfoldable pub read_union : Reader WrittenValue → Reader WrittenSet → Reader WrittenSetForm
read_union values sets ps = do
  one ← read_intersection values sets ps
  others ← read_each begins_union_mark (read_joined_intersection values sets) (length one.1) one.1
  Ok (union one.0 (united_of others.0), others.1)

unfoldable pub read_all_except : Reader WrittenValue → Reader WrittenSet → Reader WrittenSetForm
read_all_except values sets ps = do
  behind_all ← read_token (Reserved All) ps
  behind_except ← read_token (Reserved Except) behind_all
  e ← read_element values sets behind_except
  Ok (all_except e.0, e.1)

unfoldable pub read_set_form : Reader WrittenValue → Reader WrittenSet → Reader WrittenSetForm
read_set_form values sets ps =
    if begins_with (Reserved All) ps then read_all_except values sets ps else read_union values sets ps

-- a set with what is inside
unfoldable pub read_inner_set : Reader WrittenValue → Reader WrittenSet → Reader WrittenSet
read_inner_set values sets ps = read_set_form values sets ps >>= λ form. Ok (set_node (site_at ps) form.0, form.1)

-- A set. The number says how deep types, values and sets may be nested here.
unfoldable pub read_set : ℕ → Reader WrittenSet
read_set zero ps = too_deep (begins_set ps) ps
read_set (suc levels) ps = read_inner_set (read_value levels) (read_set levels) ps
