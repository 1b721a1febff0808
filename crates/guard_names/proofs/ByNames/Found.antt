-- What is looked up in the names of modules without faults.
use Rattle.std.proofs.Common.{◌≡◌, inr, ◌↔◌, ℕ, ◌<◌, List, length, get_or, Option, Some, None, option_map, slice_get, IfSome, refl, sym, ◌∙◌, ap, subst}
use Rattle.std.proofs.lemmas.Option.{same_Some, slice_get_within, slice_get-get_or, get_or_from_slice_get}
use Rattle.guard_syntax.specs.Trees.{WrittenModule}
use Rattle.guard_names.specs.declared.fault.NameFault.{NameFault}
use Rattle.guard_names.specs.declared.fault.NameFault.TheVariants.{Recursive}
use Rattle.guard_names.specs.Declarations.{Definition, definitions}
use Rattle.guard_names.specs.Meanings.{Means, Uses, number_meant}
use Rattle.guard_names.specs.Order.{IsOrder, IsRecursive, IsFirstRecursive}
use Rattle.guard_names.specs.Faults.{fault_of_names, IsFirstFault, named}
use Rattle.guard_names.specs.inside.Queues.{UsesIn, AreInside}
use Rattle.guard_names.specs.inside.Reading.{uses_of_all}
use Rattle.guard_names.proofs.Declared.Numbered.{meant_at}
use Rattle.guard_names.proofs.InOrder.Placing.{listed_there, order_below, order_place}
use Rattle.guard_names.proofs.ByNames.SameUses.{are_means, are_meant, are_inside, recursive_so, so_recursive, first_so, recursive_within, order_so}

module _ (ms : List WrittenModule) (none : fault_of_names ms ≡ None) where
  -- a look-up answers what the name means
  pub found_means : (home name : List ℕ) (o : Option ℕ) → o ≡ number_meant ms home name → (number : ℕ) → (o ≡ Some number) ↔ Means ms home name number
  found_means home name o is number = (λ h. are_means ms none home name number (sym is ∙ h), λ m. is ∙ are_meant ms none home name number m)

  pub found_home : (home name : List ℕ) (o : Option ℕ) → o ≡ number_meant ms home name → IfSome o (λ id. (d : Definition) × (slice_get (definitions ms) id ≡ Some d) × (d.assignment.name ≡ name))
  found_home home name None is = tt
  found_home home name (Some id) is = meant_at ms home name id (are_means ms none home name id (sym is))

  module _ (us : List (List ℕ)) (are : us ≡ uses_of_all ms) where
    pub lists_inside : AreInside us
    lists_inside = subst AreInside (sym are) (are_inside ms none)

    pub lists_acyclic : ((number : ℕ) → IsRecursive (Uses ms) number → ⊥) → (number : ℕ) → IsRecursive (UsesIn us) number → ⊥
    lists_acyclic acyclic number r = acyclic number (recursive_so ms none number (subst (λ xs. IsRecursive (UsesIn xs) number) are r))

    pub acyclic_so : ((number : ℕ) → IsRecursive (UsesIn us) number → ⊥) → (number : ℕ) → IsRecursive (Uses ms) number → ⊥
    acyclic_so acyclic number r = acyclic number (subst (λ xs. IsRecursive (UsesIn xs) number) (sym are) (so_recursive ms none number r))

    pub ordered_so : (numbers : List ℕ) → IsOrder (length us) (UsesIn us) numbers → IsOrder (length (definitions ms)) (Uses ms) numbers
    ordered_so numbers o = order_so ms none numbers (subst (λ xs. IsOrder (length xs) (UsesIn xs) numbers) are o)

    pub first_within : (number : ℕ) → IsFirstRecursive (UsesIn us) number → number < length (definitions ms)
    first_within number f = recursive_within ms none number (recursive_so ms none number (subst (λ xs. IsRecursive (UsesIn xs) number) are f.recursive))

    -- the first definition that uses itself is the fault
    pub recursive_fault : (number : ℕ) → IsFirstRecursive (UsesIn us) number → (f : NameFault) → option_map (λ (d : Definition). Recursive d.assignment.site) (slice_get (definitions ms) number) ≡ Some f
        → IfSome (named f) (IsFirstFault ms)
    recursive_fault number first f is = by (slice_get (definitions ms) number) refl is
      where
        by : (o : Option Definition) → slice_get (definitions ms) number ≡ o → option_map (λ (d : Definition). Recursive d.assignment.site) o ≡ Some f → IfSome (named f) (IsFirstFault ms)
        by None e h = absurd cc
        by (Some d) e h =
            subst (λ g. IfSome (named g) (IsFirstFault ms)) (same_Some (Recursive d.assignment.site) f h)
            (inr (none, d.assignment.site, refl, (number, first_so ms none number (subst (λ xs. IsFirstRecursive (UsesIn xs) number) are first), d, e, refl)))

-- a place in the order is kept by its definition
module _ (count : ℕ) (uses : ℕ → ℕ → Type 0) (order places : List ℕ) (ordered : IsOrder count uses order) (whole : length places ≡ count)
    (placed : (number : ℕ) → number < length places → slice_get order (get_or places number 0) ≡ Some number) where
  pub place_is : (id : ℕ) (o : Option ℕ) → o ≡ slice_get places id → (place : ℕ) → (o ≡ Some place) ↔ (slice_get order place ≡ Some id)
  place_is id o is place = (to, from)
    where
      to : o ≡ Some place → slice_get order place ≡ Some id
      to h =
          let at : slice_get places id ≡ Some place = sym is ∙ h in
          subst (λ p. slice_get order p ≡ Some id) (get_or_from_slice_get places id place 0 at) (placed id (slice_get_within places id place at))

      from : slice_get order place ≡ Some id → o ≡ Some place
      from h =
          let below : id < length places = subst (λ n. id < n) (sym whole) (order_below count uses order ordered id (listed_there order place id h)) in
          is ∙ slice_get-get_or places id 0 below ∙ ap Some (order_place count uses order ordered (get_or places id 0) place id (placed id below) h)
