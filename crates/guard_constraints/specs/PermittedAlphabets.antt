-- What may be written inside FROM (X.680 51.7): in this profile strings, and ranges between two characters, in any
-- union.
use Rattle.std.specs.Prelude.{ℕ, Bool, true, false, ◌&&◌, ◌||◌, List, [], ◌∷◌, ◌++◌, map, chars, Option, Some, None, if◌then◌else◌}
use Rattle.std.specs.Str.{is_utf8}
use Rattle.std.specs.Option.{option_map, option_or}
use Rattle.guard_model.specs.declared.site.Site.{Site}
use Rattle.guard_model.specs.AbstractType as type
use Rattle.guard_model.specs.AbstractType.{AbstractKind}
use Rattle.guard_model.specs.Alphabets.{is_character}
use Rattle.guard_syntax.specs.declared.tree.StringKind.TheVariants as string
use Rattle.guard_syntax.specs.Trees as written
use Rattle.guard_syntax.specs.Trees.{WrittenValue, WrittenEndForm, WrittenEnd, WrittenRange, WrittenSet, WrittenSetForm, WrittenUnited, WrittenIntersection, WrittenDifference, WrittenElement, WrittenElementForm, value_node, set_node, all_except, union, none_united, united, intersection, none_met, met, element_alone, element_except, element_node}
use Rattle.guard_values.specs.Strings.{quoted}

-- ---- what is written

-- a string in double quotes, by the codes of its characters
pub record SitedText : Type 0 where
  pub site : Site
  pub codes : List ℕ

-- an end of a range of characters: MIN or MAX, or a string of one character
pub data CodeEnd : Type 0 where
  open_end : CodeEnd
  character : Site → ℕ → CodeEnd

pub data AlphabetItem : Type 0 where
  -- the characters of a string
  all_of : SitedText → AlphabetItem
  -- those between two ends, both in
  between : CodeEnd → CodeEnd → AlphabetItem

-- ---- which sets have this form

-- the characters that are quoted; the octets of a text are UTF-8
abbrev pub quoted_codes : List ℕ → Option (List ℕ)
quoted_codes spelling = if is_utf8 (quoted spelling) then Some (chars (quoted spelling)) else None

abbrev pub one_alone : Option (List ℕ) → Option ℕ
one_alone None = None
one_alone (Some []) = None
one_alone (Some (c ∷ [])) = Some c
one_alone (Some (c ∷ d ∷ cs)) = None

abbrev pub code_end_of : Site → WrittenEndForm → Option CodeEnd
code_end_of site (written.end_integer n) = None
code_end_of site (written.end_reference name) = None
code_end_of site (written.end_characters spelling) = option_map (character site) (one_alone (quoted_codes spelling))

abbrev pub code_end : Option WrittenEnd → Option CodeEnd
code_end None = Some open_end
code_end (Some e) = code_end_of e.site e.form

abbrev pub between_both : Option CodeEnd → Option CodeEnd → Option AlphabetItem
between_both None high = None
between_both (Some low) None = None
between_both (Some low) (Some high) = Some (between low high)

-- a range without `<`
abbrev pub item_of_range : WrittenRange → Option AlphabetItem
item_of_range r = if r.above_low || r.below_high then None else between_both (code_end r.low) (code_end r.high)

-- a string in double quotes
abbrev pub item_of_value : WrittenValue → Option AlphabetItem
item_of_value (value_node site (written.boolean b)) = None
item_of_value (value_node site written.null) = None
item_of_value (value_node site (written.integer n)) = None
item_of_value (value_node site (written.text string.Bits spelling)) = None
item_of_value (value_node site (written.text string.Hexadecimal spelling)) = None
item_of_value (value_node site (written.text string.Characters spelling)) =
    option_map (λ codes. all_of (record { site = site; codes = codes })) (quoted_codes spelling)
item_of_value (value_node site (written.reference name)) = None
item_of_value (value_node site (written.chosen name tree)) = None
item_of_value (value_node site (written.list es)) = None
item_of_value (value_node site (written.arcs arcs)) = None

abbrev pub item_alone : Option AlphabetItem → Option (List AlphabetItem)
item_alone found = option_map (λ i. i ∷ []) found

-- what both give, in turn, where both give something
abbrev pub joined_items : Option (List AlphabetItem) → Option (List AlphabetItem) → Option (List AlphabetItem)
joined_items None others = None
joined_items (Some items) others = option_map (λ more. items ++ more) others

-- The strings and ranges of a set, in written order; none where it has another form: ALL EXCEPT, an intersection,
-- EXCEPT, or an element that is neither. Parentheses and unions inside a union say nothing new.
unfoldable mutual
  pub items_of : WrittenSet → Option (List AlphabetItem)
  items_of (set_node site form) = items_of_form form

  pub items_of_form : WrittenSetForm → Option (List AlphabetItem)
  items_of_form (all_except e) = None
  items_of_form (union first others) = joined_items (items_of_intersection first) (items_of_united others)

  pub items_of_united : WrittenUnited → Option (List AlphabetItem)
  items_of_united none_united = Some []
  items_of_united (united mark one others) = joined_items (items_of_intersection one) (items_of_united others)

  pub items_of_intersection : WrittenIntersection → Option (List AlphabetItem)
  items_of_intersection (intersection site d none_met) = items_of_difference d
  items_of_intersection (intersection site d (met mark e others)) = None

  pub items_of_difference : WrittenDifference → Option (List AlphabetItem)
  items_of_difference (element_alone site e) = items_of_element e
  items_of_difference (element_except site e f) = None

  pub items_of_element : WrittenElement → Option (List AlphabetItem)
  items_of_element (element_node site form) = items_of_element_form form

  pub items_of_element_form : WrittenElementForm → Option (List AlphabetItem)
  items_of_element_form (written.parentheses set) = items_of set
  items_of_element_form (written.value tree) = item_alone (item_of_value tree)
  items_of_element_form (written.contained includes site name) = None
  items_of_element_form (written.range r) = item_alone (item_of_range r)
  items_of_element_form (written.size inner) = None
  items_of_element_form (written.from inner) = None
  items_of_element_form (written.with_component inner) = None
  items_of_element_form (written.with_components partial ps) = None

-- ---- which characters are permitted

-- the codes of MIN and MAX
abbrev pub least_code : ℕ
least_code = 0

abbrev pub greatest_code : ℕ
greatest_code = 0x10FFFF

abbrev pub code_at : ℕ → CodeEnd → ℕ
code_at free open_end = free
code_at free (character site code) = code

abbrev pub alone : ℕ → ℕ × ℕ
alone code = (code, code)

-- Ranges of codes, both ends in: each character of a string is one of its own.
abbrev pub ranges_of_item : AlphabetItem → List (ℕ × ℕ)
ranges_of_item (all_of s) = map alone s.codes
ranges_of_item (between low high) = (code_at least_code low, code_at greatest_code high) ∷ []

-- in written order
abbrev pub ranges_of : List AlphabetItem → List (ℕ × ℕ)
ranges_of [] = []
ranges_of (i ∷ others) = ranges_of_item i ++ ranges_of others

-- ---- characters that are written and aren't of the type's alphabet (41)

abbrev pub is_of_alphabet : AbstractKind → ℕ → Bool
is_of_alphabet type.boolean code = false
is_of_alphabet (type.integer names) code = false
is_of_alphabet (type.bit_string names) code = false
is_of_alphabet type.octet_string code = false
is_of_alphabet type.null code = false
is_of_alphabet type.object_identifier code = false
is_of_alphabet (type.enumerated items) code = false
is_of_alphabet (type.characters k) code = is_character k code
is_of_alphabet (type.sequence cs) code = false
is_of_alphabet (type.set cs) code = false
is_of_alphabet (type.choice cs) code = false
is_of_alphabet (type.sequence_of t) code = false
is_of_alphabet (type.set_of t) code = false

abbrev pub are_of_alphabet : AbstractKind → List ℕ → Bool
are_of_alphabet kind [] = true
are_of_alphabet kind (c ∷ cs) = is_of_alphabet kind c && are_of_alphabet kind cs

abbrev pub bad_end : AbstractKind → CodeEnd → Option Site
bad_end kind open_end = None
bad_end kind (character site code) = if is_of_alphabet kind code then None else Some site

abbrev pub bad_item : AbstractKind → AlphabetItem → Option Site
bad_item kind (all_of s) = if are_of_alphabet kind s.codes then None else Some s.site
bad_item kind (between low high) = option_or (bad_end kind low) (bad_end kind high)

-- the first string with such a character
abbrev pub first_bad : AbstractKind → List AlphabetItem → Option Site
first_bad kind [] = None
first_bad kind (i ∷ others) = option_or (bad_item kind i) (first_bad kind others)
