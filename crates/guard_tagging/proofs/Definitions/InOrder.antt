-- What is known of the first definitions in an order is there: it is found by going through them, and there is one such
-- list.
use Rattle.std.proofs.Common.{◌≡◌, ℕ, ◌+◌, List, [], ◌∷◌, ◌++◌, length, take, Some, None, slice_get, refl, sym, subst, ◌∙◌, ap, append_assoc}
use Rattle.std.proofs.lemmas.List.{append-nil, length_push}
use Rattle.guard_model.specs.AbstractType.{AbstractType}
use Rattle.guard_syntax.specs.Trees.{WrittenModule}
use Rattle.guard_names.specs.Declarations.{Definition, definitions}
use Rattle.guard_names.specs.Faults.{fault_of_names}
use Rattle.guard_names.specs.Meanings.{Uses}
use Rattle.guard_names.specs.Order.{IsOrder}
use Rattle.guard_tagging.specs.Skeletons.{AreMeanings, AreSurroundings, surroundings_of}
use Rattle.guard_tagging.specs.Surroundings.{surroundings, meaning_at, known_after, known_from}
use Rattle.guard_tagging.specs.Types.{Meaning, Surroundings}
use Rattle.guard_tagging.proofs.Definitions.AutomaticLists.{definition_right}
use Rattle.guard_tagging.proofs.Definitions.Meanings.{none_yet, one_meaning_more, same_meanings}

at_front : (front : List ℕ) (n : ℕ) (rest : List ℕ) → slice_get (front ++ n ∷ rest) (length front) ≡ Some n
at_front [] n rest = refl
at_front (x ∷ front) n rest = at_front front n rest

-- of more types than there are in the order the last ones don't matter
as_ordered : (ms : List WrittenModule) (order : List ℕ) (types : List AbstractType) (known : List Meaning)
    → AreMeanings ms order (take (length order) types) known → AreMeanings ms order types known
as_ordered ms [] types known are = are
as_ordered ms (n ∷ order) [] known are = are
as_ordered ms (n ∷ order) (t ∷ types) [] are = absurd are
as_ordered ms (n ∷ order) (t ∷ types) (m ∷ known) are = (are.0, as_ordered ms order types known are.1)

module _ (ms : List WrittenModule) (none : fault_of_names ms ≡ None) (order : List ℕ)
    (ordered : IsOrder (length (definitions ms)) (Uses ms) order) where
  gone_through : (front rest : List ℕ) (done types : List AbstractType) (known : List Meaning) → order ≡ front ++ rest
      → length front ≡ length done
      → AreMeanings ms order done known → AreMeanings ms order (done
      ++ take (length rest) types) (known_after ms order known rest types)
  gone_through front [] done types known split many are =
      subst (λ (ts : List AbstractType). AreMeanings ms order ts known) (sym (append-nil done)) are
  gone_through front (n ∷ rest) done [] known split many are =
      subst (λ (ts : List AbstractType). AreMeanings ms order ts known) (sym (append-nil done)) are
  gone_through front (n ∷ rest) done (t ∷ types) known split many are =
      let next : slice_get order (length done) ≡ Some n =
      ap (slice_get order) (sym many) ∙ ap (λ (ns : List ℕ). slice_get ns (length front)) split
      ∙ at_front front n rest in
      let right = definition_right ms none order ordered done known are n next (slice_get (definitions ms) n) refl in
      let more = one_meaning_more ms order done known t (meaning_at ms order known n t) n are next (refl, right) in
      subst (λ (ts : List AbstractType). AreMeanings ms order ts
      (known_after ms order (known ++ meaning_at ms order known n t ∷ []) rest types))
      (append_assoc done (t ∷ []) (take (length rest) types))
      (gone_through (front ++ n ∷ []) rest (done ++ t ∷ []) types (known ++ meaning_at ms order known n t ∷ [])
      (split ∙ sym (append_assoc front (n ∷ []) rest))
      (length_push front n ∙ ap (λ (k : ℕ). k + 1) many ∙ sym (length_push done t)) more)

  pub known_in_order : (types : List AbstractType) → AreMeanings ms order types (known_from ms order types)
  known_in_order types =
      as_ordered ms order types (known_from ms order types)
      (gone_through [] order [] types [] refl refl (none_yet ms order))

  pub around_is : (types : List AbstractType) (d : Definition) (around : Surroundings)
      → AreSurroundings ms order types d around
      → around ≡ surroundings_of ms order types d
  around_is types d around are =
      are.2 ∙ ap (λ (known : List Meaning). surroundings ms order known d.home)
      (same_meanings ms order types are.0 (known_from ms order types) are.1 (known_in_order types))
