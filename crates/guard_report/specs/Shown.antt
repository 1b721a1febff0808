-- A message as its value is written, with a part on each line: the line on which a part begins ends with the place of
-- the part's encoding. And octets that encode no value, as far as they were read.
use Rattle.std.specs.Prelude.{ℕ, zero, suc, ◌+◌, ◌-◌, ◌%◌, Bool, true, false, List, [], ◌∷◌, ◌++◌, codes, decimal}
use Rattle.std.specs.Prelude.{nat_eq, take, Option, Some, None, if◌then◌else◌}
use Rattle.guard_model.specs.declared.site.Step.TheVariants.{Component}
use Rattle.guard_model.specs.AbstractType.{AbstractType}
use Rattle.guard_model.specs.AbstractValue as value
use Rattle.guard_model.specs.AbstractValue.{AbstractValue, Fields, Items}
use Rattle.guard_der.specs.Breach.{AbstractBreach}
use Rattle.guard_der.specs.Names.{breach_name}
use Rattle.guard_report.specs.declared.layout.Layout.TheVariants.{Lines}
use Rattle.guard_report.specs.declared.showing.Shown.{Shown}
use Rattle.guard_report.specs.declared.showing.Shown.TheVariants.{Value, Undecodable}
use Rattle.guard_report.specs.Layouts.{new_line}
pub use Rattle.guard_report.specs.Layouts.{deeper}
use Rattle.guard_report.specs.Places.{inside_value, after_element, component_place, next_place, is_set}
use Rattle.guard_report.specs.Strings.{two_digits}
use Rattle.guard_report.specs.Text.{component_of, part_name, element_type, type_within, steps_text}
use Rattle.guard_report.specs.ValueText.{value_octets}

-- ---- lines

-- a comment up to the end of the line (X.680 12.6.3)
abbrev pub note : Option ℕ → List ℕ
note None = codes " -- default"
note (Some at) = codes " -- " ++ decimal at

abbrev pub none_there : Fields → Bool
none_there value.no_fields = true
none_there (value.present v fs) = false
none_there (value.absent fs) = none_there fs

abbrev pub is_no_item : Items → Bool
is_no_item value.no_items = true
is_no_item (value.item v vs) = false

-- as all values are but braces with parts in them
abbrev pub is_on_one_line : AbstractValue → Bool
is_on_one_line (value.fields fs) = none_there fs
is_on_one_line (value.items vs) = is_no_item vs
is_on_one_line (value.chosen i v) = is_on_one_line v
is_on_one_line (value.boolean b) = true
is_on_one_line (value.integer z) = true
is_on_one_line (value.enumerated z) = true
is_on_one_line value.null = true
is_on_one_line (value.bit_string octets unused) = true
is_on_one_line (value.octet_string octets) = true
is_on_one_line (value.object_identifier arcs) = true
is_on_one_line (value.characters characters) = true

-- What ends the last line of a value that begins there: its note where it is on one line, else its note came before.
abbrev pub last_end : (Option ℕ → List ℕ) → AbstractValue → Option ℕ → List ℕ
last_end note v at = if is_on_one_line v then note at else []

-- a part without what ends its last line, and that
pub record ShownPart : Type 0 where
  pub text : List ℕ
  pub last : List ℕ

-- the comma after the part before, what ends that line, and the place where the next part begins
abbrev pub before_line : ℕ → Bool → List ℕ → List ℕ
before_line level true end = end ++ new_line level
before_line level false end = codes "," ++ end ++ new_line level

-- What comes after the last part. Where there is none, nothing is between the braces.
abbrev pub closing_line : ℕ → Bool → List ℕ → List ℕ
closing_line level true end = codes "}"
closing_line level false end = end ++ new_line level ++ codes "}"

-- these parts, after a line that ends so, and what closes them
abbrev pub lines_from : ℕ → Bool → List ℕ → List ShownPart → List ℕ
lines_from level is_first end [] = closing_line level is_first end
lines_from level is_first end (part ∷ parts) =
    before_line (deeper level) is_first end ++ part.text ++ lines_from level false part.last parts

-- ---- values

-- At this level of indentation; the value's encoding begins at `at`, and that of the part on whose line it begins at
-- `line`: an alternative is on the line of its CHOICE. Of a line's place `note` says how it is written.
abbrev mutual
  pub value_lines : (Option ℕ → List ℕ) → List ℕ → ℕ → Option ℕ → Option ℕ → Option AbstractType → AbstractValue
      → List ℕ
  value_lines note octets level line at t (value.fields fs) =
      codes "{"
      ++ lines_from level true (note line) (field_lines note octets (deeper level) (inside_value octets t at) t 0 fs)
  value_lines note octets level line at t (value.items vs) =
      codes "{" ++ lines_from level true (note line)
      (element_lines note octets (deeper level) (inside_value octets t at) (element_type t) vs)
  value_lines note octets level line at t (value.chosen i v) =
      part_name t i ++ codes ": "
      ++ value_lines note octets level line (inside_value octets t at) (type_within t (Component i)) v
  value_lines note octets level line at t (value.boolean b) = value_octets (Lines level) t (value.boolean b)
  value_lines note octets level line at t (value.integer z) = value_octets (Lines level) t (value.integer z)
  value_lines note octets level line at t (value.enumerated z) = value_octets (Lines level) t (value.enumerated z)
  value_lines note octets level line at t value.null = value_octets (Lines level) t value.null
  value_lines note octets level line at t (value.bit_string os unused) =
      value_octets (Lines level) t (value.bit_string os unused)
  value_lines note octets level line at t (value.octet_string os) = value_octets (Lines level) t (value.octet_string os)
  value_lines note octets level line at t (value.object_identifier arcs) =
      value_octets (Lines level) t (value.object_identifier arcs)
  value_lines note octets level line at t (value.characters cs) = value_octets (Lines level) t (value.characters cs)

  -- Component i of the type and those after it, with `next` of Places.
  pub field_lines : (Option ℕ → List ℕ) → List ℕ → ℕ → Option ℕ → Option AbstractType → ℕ → Fields → List ShownPart
  field_lines note octets level next t i value.no_fields = []
  field_lines note octets level next t i (value.present v fs) =
      let at = component_place octets (is_set t) (component_of t i) v next in
      record {
        text = part_name t i ++ codes " " ++ value_lines note octets level at at (type_within t (Component i)) v;
        last = last_end note v at;
      }
      ∷ field_lines note octets level (next_place octets (is_set t) at next) t (suc i) fs
  field_lines note octets level next t i (value.absent fs) = field_lines note octets level next t (suc i) fs

  -- elements, each of this type, the first of which begins at `next`
  pub element_lines : (Option ℕ → List ℕ) → List ℕ → ℕ → Option ℕ → Option AbstractType → Items → List ShownPart
  element_lines note octets level next t value.no_items = []
  element_lines note octets level next t (value.item v vs) =
      record { text = value_lines note octets level next next t v; last = last_end note v next }
      ∷ element_lines note octets level (after_element octets next) t vs

-- a message that encodes this value of the type
abbrev pub value_shown : AbstractType → List ℕ → AbstractValue → List ℕ
value_shown t octets v = value_lines note octets 0 (Some 0) (Some 0) (Some t) v ++ last_end note v (Some 0)

-- ---- octets

-- 32 on a line
abbrev pub line_feed_before : ℕ → List ℕ
line_feed_before zero = []
line_feed_before (suc i) = if nat_eq (suc i % 32) 0 then codes "\n" else []

-- the first of these is octet i
abbrev pub digit_lines : ℕ → List ℕ → List ℕ
digit_lines i [] = []
digit_lines i (octet ∷ octets) = line_feed_before i ++ two_digits octet ++ digit_lines (suc i) octets

-- The octets before the breach as an hstring (X.680 12.12), and the breach as a verdict names it, in a comment.
abbrev pub breach_shown : AbstractType → List ℕ → AbstractBreach → List ℕ
breach_shown t octets b =
    codes "'" ++ digit_lines 0 (take b.at octets) ++ codes "'H\n-- " ++ breach_name b.code ++ codes " at "
    ++ decimal b.at
    ++ codes " $" ++ steps_text (Some t) b.path

-- ---- what is answered

pub data AbstractShown : Type 0 where
  shown_value : List ℕ → AbstractShown
  shown_undecodable : List ℕ → AbstractShown

abbrev pub shown_view : Shown → AbstractShown
shown_view (Value text) = shown_value text.items
shown_view (Undecodable text) = shown_undecodable text.items
