-- Whether each of the definitions is a list that is tagged automatically, found one after the other in their order.
use Rattle.std.proofs.Common.{◌≡◌, ◌↔◌, ℕ, zero, suc, ◌+◌, ◌<◌, ◌≤◌, Bool, true, List, [], ◌∷◌, ◌++◌, length, take, get_or, Some, None, slice_get, refl, sym, subst, ◌∙◌, ap, arith}
use Rattle.std.proofs.lemmas.List.{length-take-le, take_all, take_more}
use Rattle.std.proofs.lemmas.Option.{same_Some, slice_get-get_or}
use Rattle.guard_model.specs.AbstractType.{AbstractType, type_of, null, no_constraints}
use Rattle.guard_syntax.specs.Trees.{WrittenModule}
use Rattle.guard_names.specs.Declarations.{definitions}
use Rattle.guard_names.specs.Faults.{fault_of_names}
use Rattle.guard_names.specs.Meanings.{Uses}
use Rattle.guard_names.specs.Order.{IsOrder}
use Rattle.guard_tagging.specs.Automatic.{Automatic}
use Rattle.guard_tagging.specs.ScopeView.{known_list}
use Rattle.guard_tagging.specs.Skeletons.{AreMeanings}
use Rattle.guard_tagging.specs.Surroundings.{is_automatic_definition}
use Rattle.guard_tagging.specs.Types.{Meaning}
use Rattle.guard_tagging.proofs.Definitions.AutomaticLists.{definition_right}
use Rattle.guard_tagging.proofs.Definitions.Meanings.{none_yet, one_meaning_more}

-- ---- types with their flags

no_flags : (types : List AbstractType) → known_list types [] ≡ []
no_flags [] = refl
no_flags (t ∷ types) = refl

one_more : (types : List AbstractType) (flags : List Bool) (place : ℕ) (t : AbstractType) (b : Bool)
    → length flags ≡ place → slice_get types place ≡ Some t
    → known_list types (flags ++ b ∷ []) ≡ known_list types flags ++ record { ty = t; is_automatic = b } ∷ []
one_more [] flags place t b e h = absurd cc
one_more (u ∷ types) [] zero t b e h =
    ap (λ x. record { ty = x; is_automatic = b } ∷ known_list types []) (same_Some u t h)
    ∙ ap (λ xs. record { ty = t; is_automatic = b } ∷ xs) (no_flags types)
one_more (u ∷ types) [] (suc place) t b e h = absurd (omega (arith, e))
one_more (u ∷ types) (a ∷ flags) zero t b e h = absurd (omega (arith, e))
one_more (u ∷ types) (a ∷ flags) (suc place) t b e h =
    ap (λ xs. record { ty = u; is_automatic = a } ∷ xs) (one_more types flags place t b (less e) h)
  where
    less : {p q : ℕ} → suc p ≡ suc q → p ≡ q
    less h' = omega (arith, h')

take_none : (types : List AbstractType) → take 0 types ≡ []
take_none [] = refl
take_none (t ∷ types) = refl

-- ---- a loop that finds them

module _ (ms : List WrittenModule) (order : List ℕ) (types : List AbstractType) where
  pub none_flagged : (flags : List Bool) → flags ≡ [] → AreMeanings ms order (take 0 types) (known_list types flags)
  none_flagged flags e =
      subst (λ (ts : List AbstractType). AreMeanings ms order ts (known_list types flags)) (sym (take_none types))
      (subst (λ (known : List Meaning). AreMeanings ms order [] known) (sym (ap (known_list types) e ∙ no_flags types))
      (none_yet ms order))

  pub all_flagged : (flags : List Bool) (place : ℕ) → length types ≤ place
      → AreMeanings ms order (take place types) (known_list types flags)
      → AreMeanings ms order types (known_list types flags)
  all_flagged flags place l are =
      subst (λ (ts : List AbstractType). AreMeanings ms order ts (known_list types flags)) (take_all place types l) are

module _ (ms : List WrittenModule) (none : fault_of_names ms ≡ None) (order : List ℕ)
    (ordered : IsOrder (length (definitions ms)) (Uses ms) order)
    (types : List AbstractType) (flags : List Bool) (place : ℕ) (many : length flags ≡ place)
    (are : AreMeanings ms order (take place types) (known_list types flags)) (listed : place < length order)
    (below : place < length types)
    (number : ℕ) (b : Bool) (here : number ≡ get_or order place 0)
    (found : b ≡ is_automatic_definition ms order (known_list types flags) (slice_get (definitions ms) number)) where
  abbrev t : AbstractType
  t = get_or types place (type_of [] null no_constraints)

  taken : length (take place types) ≡ place
  taken = length-take-le place types (omega (arith, below))

  next : slice_get order (length (take place types)) ≡ Some number
  next = ap (slice_get order) taken ∙ slice_get-get_or order place 0 listed ∙ ap Some (sym here)

  more_types : take (place + 1) types ≡ take place types ++ t ∷ []
  more_types = take_more types place (type_of [] null no_constraints) below

  more_known : known_list types (flags ++ b ∷ []) ≡ known_list types flags ++ record { ty = t; is_automatic = b } ∷ []
  more_known = one_more types flags place t b many (slice_get-get_or types place (type_of [] null no_constraints) below)

  pub one_flag_more : (all : List Bool) → all ≡ flags ++ b ∷ []
      → AreMeanings ms order (take (place + 1) types) (known_list types all)
  one_flag_more all e =
      let right =
      definition_right ms none order ordered (take place types) (known_list types flags) are number next
      (slice_get (definitions ms) number) refl in
      subst (λ (ts : List AbstractType). AreMeanings ms order ts (known_list types all)) (sym more_types)
      (subst (λ (known : List Meaning). AreMeanings ms order (take place types ++ t ∷ []) known)
      (sym (ap (known_list types) e ∙ more_known))
      (one_meaning_more ms order (take place types) (known_list types flags) t
      (record { ty = t; is_automatic = b }) number are next
      (refl, subst (λ (f : Bool). (f ≡ true) ↔ Automatic ms number) (sym found) right)))
