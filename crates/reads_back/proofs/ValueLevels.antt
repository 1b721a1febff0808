-- The tree of a value's text is one of the grammar: it lies within as many levels as the type is nested, and one more.
use Rattle.std.proofs.Common.{◌≡◌, ℕ, zero, suc, ◌+◌, ◌^◌, ◌<◌, ◌≤◌, Bool, true, false, ◌&&◌, ◌||◌, max, ℤ, pos, negsuc, List, [], ◌∷◌, map, length, decimal, Option, Some, nat_le, option_map, refl, sym, ap, subst, ◌∙◌, inl, inr, le_trans, arith}
use Rattle.std.proofs.lemmas.Bool.{and_parts, cases_Bool, cond-true, cond-false, false≢true}
use Rattle.std.proofs.lemmas.Bool.Decides.{nat_tests}
use Rattle.guard_model.specs.declared.tag.Tag.{Tag}
use Rattle.guard_model.specs.AbstractType as type
use Rattle.guard_model.specs.AbstractType.{AbstractType, AbstractKind, AbstractPresence, Components, Constraints, NamedNumber, type_of, no_components, component}
use Rattle.guard_model.specs.AbstractValue as value
use Rattle.guard_model.specs.AbstractValue.{AbstractValue, Fields, Items}
use Rattle.guard_model.specs.TypeView.{OneComponent}
use Rattle.guard_model.specs.Components.{component_at}
use Rattle.guard_model.specs.Counts.{component_count}
use Rattle.guard_model.specs.Kinds.{is_choice}
use Rattle.guard_model.specs.Limits.{fits_128_bits, most_components}
use Rattle.guard_tagcheck.specs.Limits.{nesting, deepest, is_tagged, has_tag, are_low}
use Rattle.guard_der.specs.Der.{der, item_encodings}
use Rattle.guard_der.specs.Fits.{fits, fits_alternative, fits_fields, fits_arcs, fits_items, are_few, every_fits, are_ascending, may_be_absent}
use Rattle.guard_der.specs.Sound.{is_proper, is_proper_kind, are_proper, are_proper_constraints}
use Rattle.guard_lexer.specs.Items.{number_value}
use Rattle.guard_syntax.specs.Trees.{list}
use Rattle.guard_syntax.specs.Grammar.{zero_digits, IsNumber, AreArcs, IsValue, AreEntries}
use Rattle.guard_values.proofs.Braces.ProperComponents.{proper_parts}
use Rattle.guard_report.specs.Strings.{bits_of, are_named, names_of_ones}
use Rattle.reads_back.specs.inside.TreeOf.{node, number_written, arc_written, names_written, digits_tree, bits_tree, tree_of, fields_written, items_written}
use Rattle.reads_back.proofs.Decimals.{decimal_value}
use Rattle.reads_back.proofs.ValueTexts.{FromPlace, further_place, this_place, from_start}

-- ---- simple values

not_zero : (n : ℕ) → suc n < 10 ^ 64 → decimal (suc n) ≡ zero_digits → ⊥
not_zero n small e = let one = decimal_value (suc n) small in let other : number_value (decimal (suc n)) ≡ 0 = ap number_value e in absurd (omega (arith, one, other))

number_proper : (z : ℤ) → fits_128_bits z ≡ true → IsNumber (number_written z)
number_proper (pos n) h = tt
number_proper (negsuc n) h = let lt : n < 2 ^ 127 = grind (arith, nat_tests) in not_zero n (omega (arith, lt))

arcs_proper : (arcs : List ℕ) → fits_arcs arcs ≡ true → AreArcs (map arc_written arcs)
arcs_proper [] h = absurd (false≢true h)
arcs_proper (x ∷ []) h = absurd (false≢true h)
arcs_proper (x ∷ y ∷ arcs) h = tt

names_proper : (levels : ℕ) (names : List (List ℕ)) → AreEntries (suc levels) (names_written names)
names_proper levels [] = tt
names_proper levels (name ∷ names) = (tt, names_proper levels names)

digits_proper : (levels : ℕ) (octets : List ℕ) (unused : ℕ) → IsValue (suc levels) (digits_tree octets unused)
digits_proper levels octets zero = tt
digits_proper levels octets (suc unused) = tt

bits_proper : (levels : ℕ) (ns : List NamedNumber) (octets : List ℕ) (unused : ℕ) → IsValue (suc (suc levels)) (bits_tree ns octets unused)
bits_proper levels [] octets unused = digits_proper (suc levels) octets unused
bits_proper levels (n ∷ ns) octets unused =
    let names = names_of_ones (n ∷ ns) 0 (bits_of octets unused) in
    let test = are_named (n ∷ ns) 0 (bits_of octets unused) in
    elim (cases_Bool test) [
      | inl h ↦ subst (IsValue (suc (suc levels))) (sym (cond-true test (node (list (names_written names))) (digits_tree octets unused) h)) (names_proper levels names)
      | inr h ↦ subst (IsValue (suc (suc levels))) (sym (cond-false test (node (list (names_written names))) (digits_tree octets unused) h)) (digits_proper (suc levels) octets unused)
    ]

-- ---- levels

tagged_some : (tags : List Tag) → (has_tag tags || false) ≡ true → 1 ≤ length tags
tagged_some [] h = absurd (false≢true h)
tagged_some (t ∷ ts) h = omega arith

-- a kind other than CHOICE has a tag
one_tag : (tags : List Tag) (kind : AbstractKind) (cons : Constraints) → is_proper (type_of tags kind cons) ≡ true → is_choice kind ≡ false → 1 ≤ length tags
one_tag tags kind cons h other =
    let p = and_parts (is_tagged tags kind && are_low tags && are_proper_constraints cons (type_of tags kind cons)) (is_proper_kind kind) h in
    let q = and_parts (is_tagged tags kind && are_low tags) (are_proper_constraints cons (type_of tags kind cons)) p.0 in
    let r = (and_parts (is_tagged tags kind) (are_low tags) q.0).0 in
    tagged_some tags (ap (λ (b : Bool). has_tag tags || b) (sym other) ∙ r)

kind_proper : (tags : List Tag) (kind : AbstractKind) (cons : Constraints) → is_proper (type_of tags kind cons) ≡ true → is_proper_kind kind ≡ true
kind_proper tags kind cons h = (and_parts (is_tagged tags kind && are_low tags && are_proper_constraints cons (type_of tags kind cons)) (is_proper_kind kind) h).1

none_within : (n inside : ℕ) → 1 ≤ n → n + inside ≤ 0 → ⊥
none_within n inside one le = omega arith

inside_within : (n inside levels : ℕ) → 1 ≤ n → n + inside ≤ suc levels → inside ≤ levels
inside_within n inside levels one le = omega arith

no_choice_within : (n inside : ℕ) → n + suc inside ≤ 0 → ⊥
no_choice_within n inside le = omega arith

choice_within : (n inside levels : ℕ) → n + suc inside ≤ suc levels → inside ≤ levels
choice_within n inside levels le = omega arith

record Alternative (cs : Components) (i : ℕ) (v : AbstractValue) : Type 0 where
  name : List ℕ
  ty : AbstractType
  presence : AbstractPresence
  there : component_at i cs ≡ Some (record { name = name; ty = ty; presence = presence })
  fitting : fits ty v ≡ true
  proper : is_proper ty ≡ true
  less : nesting ty ≤ deepest cs

alternative_of : (cs : Components) (i : ℕ) (v : AbstractValue) → are_proper cs ≡ true → fits_alternative cs i v ≡ true → Alternative cs i v
alternative_of no_components i v h e = absurd (false≢true e)
alternative_of (component name t presence rest) zero v h e =
    let le : nesting t ≤ max (nesting t) (deepest rest) = omega arith in
    record { name = name; ty = t; presence = presence; there = refl; fitting = e; proper = (proper_parts name t presence rest h).0; less = le }
alternative_of (component name t presence rest) (suc i) v h e =
    let a = alternative_of rest i v (proper_parts name t presence rest h).2 e in
    let below : nesting a.ty ≤ deepest rest = a.less in
    let le : nesting a.ty ≤ max (nesting t) (deepest rest) = omega (arith, below) in
    record { name = a.name; ty = a.ty; presence = a.presence; there = a.there; fitting = a.fitting; proper = a.proper; less = le }

mutual
  pub value_levels : (levels : ℕ) (t : AbstractType) (v : AbstractValue) → is_proper t ≡ true → fits t v ≡ true → nesting t ≤ levels → IsValue (suc levels) (tree_of (Some t) v)
  value_levels levels (type_of tags type.boolean cons) (value.boolean b) proper fit le = tt
  value_levels levels (type_of tags (type.integer ns) cons) (value.integer z) proper fit le = number_proper z fit
  value_levels levels (type_of tags (type.enumerated ns) cons) (value.enumerated z) proper fit le = tt
  value_levels levels (type_of tags type.null cons) value.null proper fit le = tt
  value_levels zero (type_of tags (type.bit_string ns) cons) (value.bit_string octets unused) proper fit le = absurd (none_within (length tags) 0 (one_tag tags (type.bit_string ns) cons proper refl) le)
  value_levels (suc levels) (type_of tags (type.bit_string ns) cons) (value.bit_string octets unused) proper fit le = bits_proper levels ns octets unused
  value_levels levels (type_of tags type.octet_string cons) (value.octet_string octets) proper fit le = tt
  value_levels levels (type_of tags type.object_identifier cons) (value.object_identifier arcs) proper fit le = arcs_proper arcs fit
  value_levels levels (type_of tags (type.characters k) cons) (value.characters cs) proper fit le = tt
  value_levels zero (type_of tags (type.sequence cs) cons) (value.fields fs) proper fit le = absurd (none_within (length tags) (deepest cs) (one_tag tags (type.sequence cs) cons proper refl) le)
  value_levels (suc levels) (type_of tags (type.sequence cs) cons) (value.fields fs) proper fit le =
      let t = type_of tags (type.sequence cs) cons in
      let one : 1 ≤ length tags = one_tag tags (type.sequence cs) cons proper refl in
      let parts = (and_parts (nat_le (component_count cs) most_components) (are_proper cs) (kind_proper tags (type.sequence cs) cons proper)).1 in
      fields_levels levels t 0 cs fs (from_start t cs (λ i. refl)) parts fit (inside_within (length tags) (deepest cs) levels one le)
  value_levels zero (type_of tags (type.set cs) cons) (value.fields fs) proper fit le = absurd (none_within (length tags) (deepest cs) (one_tag tags (type.set cs) cons proper refl) le)
  value_levels (suc levels) (type_of tags (type.set cs) cons) (value.fields fs) proper fit le =
      let t = type_of tags (type.set cs) cons in
      let one : 1 ≤ length tags = one_tag tags (type.set cs) cons proper refl in
      let parts = (and_parts (nat_le (component_count cs) most_components) (are_proper cs) (kind_proper tags (type.set cs) cons proper)).1 in
      fields_levels levels t 0 cs fs (from_start t cs (λ i. refl)) parts fit (inside_within (length tags) (deepest cs) levels one le)
  value_levels zero (type_of tags (type.choice cs) cons) (value.chosen i v) proper fit le = absurd (no_choice_within (length tags) (deepest cs) le)
  value_levels (suc levels) (type_of tags (type.choice cs) cons) (value.chosen i v) proper fit le =
      let parts = (and_parts (nat_le (component_count cs) most_components) (are_proper cs) (kind_proper tags (type.choice cs) cons proper)).1 in
      let a = alternative_of cs i v parts fit in
      let less : nesting a.ty ≤ deepest cs = a.less in
      let most : deepest cs ≤ levels = choice_within (length tags) (deepest cs) levels le in
      subst (λ (o : Option OneComponent). IsValue (suc levels) (tree_of (option_map (λ c. c.ty) o) v)) (sym a.there) (value_levels levels a.ty v a.proper a.fitting (le_trans less most))
  value_levels zero (type_of tags (type.sequence_of u) cons) (value.items vs) proper fit le = absurd (none_within (length tags) (nesting u) (one_tag tags (type.sequence_of u) cons proper refl) le)
  value_levels (suc levels) (type_of tags (type.sequence_of u) cons) (value.items vs) proper fit le =
      let one : 1 ≤ length tags = one_tag tags (type.sequence_of u) cons proper refl in
      items_levels levels u vs (kind_proper tags (type.sequence_of u) cons proper) (and_parts (are_few vs) (every_fits (fits u) vs) fit).1 (inside_within (length tags) (nesting u) levels one le)
  value_levels zero (type_of tags (type.set_of u) cons) (value.items vs) proper fit le = absurd (none_within (length tags) (nesting u) (one_tag tags (type.set_of u) cons proper refl) le)
  value_levels (suc levels) (type_of tags (type.set_of u) cons) (value.items vs) proper fit le =
      let one : 1 ≤ length tags = one_tag tags (type.set_of u) cons proper refl in
      let q = and_parts (fits_items (fits u) vs) (are_ascending (item_encodings (der u) vs)) fit in
      items_levels levels u vs (kind_proper tags (type.set_of u) cons proper) (and_parts (are_few vs) (every_fits (fits u) vs) q.0).1 (inside_within (length tags) (nesting u) levels one le)
  value_levels levels (type_of tags kind cons) v proper fit le = absurd (false≢true fit)

  fields_levels : (levels : ℕ) (t : AbstractType) (i : ℕ) (cs : Components) (fs : Fields) → FromPlace t i cs → are_proper cs ≡ true → fits_fields cs fs ≡ true → deepest cs ≤ levels → AreEntries (suc levels) (fields_written (Some t) i fs)
  fields_levels levels t i no_components value.no_fields from proper fit le = tt
  fields_levels levels t i (component name u presence cs) (value.present v fs) from proper fit le =
      let f = and_parts (fits u v) (fits_fields cs fs) fit in
      let q = proper_parts name u presence cs proper in
      let most : max (nesting u) (deepest cs) ≤ levels = le in
      let first : nesting u ≤ levels = omega (arith, most) in
      let others : deepest cs ≤ levels = omega (arith, most) in (
        subst (λ (o : Option OneComponent). IsValue (suc levels) (tree_of (option_map (λ c. c.ty) o) v)) (sym (this_place t i name u presence cs from)) (value_levels levels u v q.0 f.0 first),
        fields_levels levels t (suc i) cs fs (further_place t i name u presence cs from) q.2 f.1 others,
      )
  fields_levels levels t i (component name u presence cs) (value.absent fs) from proper fit le =
      let most : max (nesting u) (deepest cs) ≤ levels = le in
      let others : deepest cs ≤ levels = omega (arith, most) in
      fields_levels levels t (suc i) cs fs (further_place t i name u presence cs from) (proper_parts name u presence cs proper).2 (and_parts (may_be_absent presence) (fits_fields cs fs) fit).1 others
  fields_levels levels t i cs fs from proper fit le = absurd (false≢true fit)

  items_levels : (levels : ℕ) (u : AbstractType) (vs : Items) → is_proper u ≡ true → every_fits (fits u) vs ≡ true → nesting u ≤ levels → AreEntries (suc levels) (items_written (Some u) vs)
  items_levels levels u value.no_items proper fit le = tt
  items_levels levels u (value.item v vs) proper fit le =
      let f = and_parts (fits u v) (every_fits (fits u) vs) fit in
      (value_levels levels u v proper f.0 le, items_levels levels u vs proper f.1 le)
