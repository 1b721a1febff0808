-- What the code finds for a definition from what is known of those before it is whether it is a list that is tagged
-- automatically.
use Rattle.std.proofs.Common.{◌≡◌, ◌↔◌, ℕ, true, List, length, Option, Some, None, is_some, slice_get, refl, sym, subst, ap, ◌∙◌}
use Rattle.std.specs.Option.{option_and_then}
use Rattle.std.proofs.lemmas.Option.{same_Some}
use Rattle.guard_model.specs.AbstractType.{AbstractType}
use Rattle.guard_model.specs.declared.site.Site.{Site}
use Rattle.guard_syntax.specs.Trees.{WrittenType, type_node, WrittenBase, structure, choice, named_type, WrittenModule}
use Rattle.guard_names.specs.Declarations.{Definition, definitions}
use Rattle.guard_names.specs.Faults.{fault_of_names}
use Rattle.guard_names.specs.Meanings.{Means, Uses, number_meant}
use Rattle.guard_names.specs.Order.{IsOrder}
use Rattle.guard_names.specs.Places.{place_in, known_meant}
use Rattle.guard_names.proofs.InOrder.Places.{placed_there}
use Rattle.guard_names.proofs.ByNames.SameUses.{are_means, are_meant}
use Rattle.guard_tagging.specs.Automatic.{base_of, IsAutomaticList, Automatic, as_list, by_name}
use Rattle.guard_tagging.specs.Skeletons.{AreMeanings}
use Rattle.guard_tagging.specs.Surroundings.{tag_default_of, surroundings, is_automatic_definition}
use Rattle.guard_tagging.specs.Types.{Meaning, Surroundings, is_meant_automatic, is_automatic_base, is_automatic}
use Rattle.guard_tagging.specs.KnownNames.{IsKnown, IsKnownInside}
use Rattle.guard_tagging.proofs.Definitions.Meanings.{automatic_there}
use Rattle.guard_tagging.proofs.Definitions.KnownNames.{known_in_type}

-- ---- one tree

module _ (around : Surroundings) where
  list_found : (base : WrittenBase) → IsAutomaticList around.tag_default base → is_automatic_base around base ≡ true
  list_found (structure k cs) h = h
  list_found (choice others) h = h
  list_found base h = absurd h

defined : (ms : List WrittenModule) (number : ℕ) → Automatic ms number → slice_get (definitions ms) number ≡ None → ⊥
defined ms number (as_list d is list) h = cc
defined ms number (by_name d is site name base other means found) h = cc

module _ (ms : List WrittenModule) (none : fault_of_names ms ≡ None) (order : List ℕ)
    (ordered : IsOrder (length (definitions ms)) (Uses ms) order)
    (types : List AbstractType) (known : List Meaning) (are : AreMeanings ms order types known) where
  -- ---- what is known of the definition that a name means

  at_place : (other : ℕ) (m : Meaning) (place : Option ℕ) → place_in order other ≡ place
      → option_and_then (slice_get known) place ≡ Some m → (m.is_automatic ≡ true) ↔ Automatic ms other
  at_place other m None e h = absurd cc
  at_place other m (Some place) e h =
      automatic_there ms order types known are place other m (placed_there order other place e) h

  abbrev IsNamedSo : List ℕ → List ℕ → Meaning → Type 0
  IsNamedSo home name m =
      (other : ℕ) × (number_meant ms home name ≡ Some other) × ((m.is_automatic ≡ true) ↔ Automatic ms other)

  by_number : (home name : List ℕ) (m : Meaning) (number : Option ℕ) → number_meant ms home name ≡ number
      → option_and_then (slice_get known) (option_and_then (place_in order) number) ≡ Some m → IsNamedSo home name m
  by_number home name m None e h = absurd cc
  by_number home name m (Some other) e h = (other, e, at_place other m (place_in order other) refl h)

  named_so : (home name : List ℕ) (m : Meaning) → known_meant ms order known home name ≡ Some m → IsNamedSo home name m
  named_so home name m h = by_number home name m (number_meant ms home name) refl h

  module _ (number : ℕ) (d : Definition) (is : slice_get (definitions ms) number ≡ Some d) where
    abbrev around : Surroundings
    around = surroundings ms order known d.home

    -- ---- what is found is so

    name_right : (site : Site) (name : List ℕ) → base_of d.assignment.ty ≡ named_type site name
        → (o : Option Meaning) → around.meaning name ≡ o → is_meant_automatic o ≡ true → Automatic ms number
    name_right site name b None e h = absurd cc
    name_right site name b (Some m) e h =
        let s = named_so d.home.name name m e in
        by_name d is site name b s.0 (are_means ms none d.home.name name s.0 s.1) (s.2.0 h)

    base_right : (base : WrittenBase) → base_of d.assignment.ty ≡ base → is_automatic_base around base ≡ true
        → Automatic ms number
    base_right (structure k cs) b h =
        as_list d is (subst (λ (x : WrittenBase). IsAutomaticList (tag_default_of d.home.tag_default) x) (sym b) h)
    base_right (choice others) b h =
        as_list d is (subst (λ (x : WrittenBase). IsAutomaticList (tag_default_of d.home.tag_default) x) (sym b) h)
    base_right (named_type site name) b h = name_right site name b (around.meaning name) refl h
    base_right base b h = absurd cc

    type_right : (t : WrittenType) → d.assignment.ty ≡ t → is_automatic around t ≡ true → Automatic ms number
    type_right (type_node site tags base cons) e h = base_right base (ap base_of e) h

    -- ---- what is so is found

    name_found : (name : List ℕ) (other : ℕ) → Means ms d.home.name name other → Automatic ms other
        → (o : Option Meaning) → around.meaning name ≡ o → is_some o ≡ true → is_meant_automatic o ≡ true
    name_found name other means found None e h = absurd cc
    name_found name other means found (Some m) e h =
        let s = named_so d.home.name name m e in
        let same : other ≡ s.0 = same_Some other s.0 (sym (are_meant ms none d.home.name name other means) ∙ s.1) in
        s.2.1 (subst (Automatic ms) same found)

    base_found : (base : WrittenBase) → base_of d.assignment.ty ≡ base → IsKnownInside around base → Automatic ms number
        → is_automatic_base around base ≡ true
    base_found base b met (as_list c at list) =
        let same : c ≡ d = same_Some c d (sym at ∙ is) in
        list_found around base
        (subst (λ (x : WrittenBase). IsAutomaticList (tag_default_of d.home.tag_default) x) b
        (subst (λ (x : Definition). IsAutomaticList (tag_default_of x.home.tag_default)
        (base_of x.assignment.ty)) same list))
    base_found base b met (by_name c at site name written other means found) =
        let same : c ≡ d = same_Some c d (sym at ∙ is) in
        let name_is : base ≡ named_type site name =
        sym b ∙ ap (λ (x : Definition). base_of x.assignment.ty) (sym same) ∙ written in
        subst (λ (x : WrittenBase). is_automatic_base around x ≡ true) (sym name_is)
        (name_found name other (subst (λ (x : Definition). Means ms x.home.name name other) same means) found
        (around.meaning name) refl
        (subst (IsKnownInside around) name_is met))

    type_found : (t : WrittenType) → d.assignment.ty ≡ t → IsKnown around t → Automatic ms number
        → is_automatic around t ≡ true
    type_found (type_node site tags base cons) e met found = base_found base (ap base_of e) met found

    pub found_right : slice_get order (length types) ≡ Some number
        → (is_automatic around d.assignment.ty ≡ true) ↔ Automatic ms number
    found_right next = (
      type_right d.assignment.ty refl,
      type_found d.assignment.ty refl (known_in_type ms none order ordered types known are number next d is),
    )

  pub definition_right : (number : ℕ) → slice_get order (length types) ≡ Some number → (o : Option Definition)
      → slice_get (definitions ms) number ≡ o
      → (is_automatic_definition ms order known o ≡ true) ↔ Automatic ms number
  definition_right number next None e = (λ h. absurd cc, λ found. absurd (defined ms number found e))
  definition_right number next (Some d) e = found_right number d e next
