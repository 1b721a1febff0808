-- The notes of places are all that a value's lines have beside the value as it is written.
use Rattle.std.proofs.Common.{◌≡◌, ℕ, suc, Bool, true, false, cond, List, [], ◌∷◌, ◌++◌, map, Option, refl, ap, ◌∙◌}
use Rattle.std.specs.Prelude.{codes}
use Rattle.guard_model.specs.declared.site.Step.TheVariants.{Component}
use Rattle.guard_model.specs.AbstractType.{AbstractType}
use Rattle.guard_model.specs.AbstractValue as value
use Rattle.guard_model.specs.AbstractValue.{AbstractValue, Fields, Items}
use Rattle.guard_report.specs.declared.layout.Layout.TheVariants.{Lines}
use Rattle.guard_report.specs.Layouts.{deeper, parts_from}
use Rattle.guard_report.specs.Places.{inside_value, after_element, component_place, next_place, is_set}
use Rattle.guard_report.specs.Shown.{ShownPart, is_on_one_line, last_end, before_line, lines_from}
use Rattle.guard_report.specs.Shown.{value_lines, field_lines, element_lines}
use Rattle.guard_report.specs.Text.{component_of, part_name, element_type, type_within}
use Rattle.guard_report.specs.ValueText.{value_octets, field_texts, element_texts}

abbrev pub no_note : Option ℕ → List ℕ
no_note at = []

abbrev plain : List ℕ → ShownPart
plain text = record { text = text; last = [] }

lines_plain : (level : ℕ) (is_first : Bool) (texts : List (List ℕ))
    → lines_from level is_first [] (map plain texts) ≡ parts_from (Lines level) is_first texts
lines_plain level true [] = refl
lines_plain level false [] = refl
lines_plain level true (text ∷ texts) =
    ap (λ (rest : List ℕ). before_line (deeper level) true [] ++ text ++ rest) (lines_plain level false texts)
lines_plain level false (text ∷ texts) =
    ap (λ (rest : List ℕ). before_line (deeper level) false [] ++ text ++ rest) (lines_plain level false texts)

either_nothing : (b : Bool) → cond {A = List ℕ} b [] [] ≡ []
either_nothing true = refl
either_nothing false = refl

no_end : (v : AbstractValue) (at : Option ℕ) → last_end no_note v at ≡ []
no_end v at = either_nothing (is_on_one_line v)

one_part : (a b last : List ℕ) (parts others : List ShownPart) → a ≡ b → last ≡ [] → parts ≡ others
    → record { text = a; last = last } ∷ parts ≡ plain b ∷ others
one_part a b last parts others same ended rest = rw (same, ended, rest) refl

mutual
  pub value_alone : (octets : List ℕ) (level : ℕ) (line at : Option ℕ) (t : Option AbstractType) (v : AbstractValue)
      → value_lines no_note octets level line at t v ≡ value_octets (Lines level) t v
  value_alone octets level line at t (value.fields fs) =
      ap (λ (xs : List ℕ). 123 ∷ xs)
      (ap (lines_from level true []) (fields_alone octets (deeper level) (inside_value octets t at) t 0 fs)
      ∙ lines_plain level true (field_texts (Lines (deeper level)) t 0 fs))
  value_alone octets level line at t (value.items vs) =
      ap (λ (xs : List ℕ). 123 ∷ xs)
      (ap (lines_from level true []) (elements_alone octets (deeper level) (inside_value octets t at) (element_type t) vs)
      ∙ lines_plain level true (element_texts (Lines (deeper level)) (element_type t) vs))
  value_alone octets level line at t (value.chosen i v) =
      ap (λ (xs : List ℕ). part_name t i ++ codes ": " ++ xs)
      (value_alone octets level line (inside_value octets t at) (type_within t (Component i)) v)
  value_alone octets level line at t (value.boolean b) = refl
  value_alone octets level line at t (value.integer z) = refl
  value_alone octets level line at t (value.enumerated z) = refl
  value_alone octets level line at t value.null = refl
  value_alone octets level line at t (value.bit_string os unused) = refl
  value_alone octets level line at t (value.octet_string os) = refl
  value_alone octets level line at t (value.object_identifier arcs) = refl
  value_alone octets level line at t (value.characters cs) = refl

  fields_alone : (octets : List ℕ) (level : ℕ) (next : Option ℕ) (t : Option AbstractType) (i : ℕ) (fs : Fields)
      → field_lines no_note octets level next t i fs ≡ map plain (field_texts (Lines level) t i fs)
  fields_alone octets level next t i value.no_fields = refl
  fields_alone octets level next t i (value.absent fs) = fields_alone octets level next t (suc i) fs
  fields_alone octets level next t i (value.present v fs) =
      let at = component_place octets (is_set t) (component_of t i) v next in
      one_part _ _ _ _ _
      (ap (λ (xs : List ℕ). part_name t i ++ codes " " ++ xs) (value_alone octets level at at (type_within t (Component i)) v))
      (no_end v at)
      (fields_alone octets level (next_place octets (is_set t) at next) t (suc i) fs)

  elements_alone : (octets : List ℕ) (level : ℕ) (next : Option ℕ) (t : Option AbstractType) (vs : Items)
      → element_lines no_note octets level next t vs ≡ map plain (element_texts (Lines level) t vs)
  elements_alone octets level next t value.no_items = refl
  elements_alone octets level next t (value.item v vs) =
      one_part _ _ _ _ _ (value_alone octets level next next t v) (no_end v next)
      (elements_alone octets level (after_element octets next) t vs)
