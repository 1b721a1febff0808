-- A loop that pushes what it reads of each of several things, seen as the definitions see it.
use Rattle.std.proofs.Common.{◌≡◌, ℕ, ◌+◌, ◌<◌, List, [], ◌∷◌, ◌++◌, length, get_or, map, drop, Ok, sym, ap, ◌∙◌, subst}
use Rattle.std.proofs.lemmas.List.{map_push}
use Rattle.guard_model.specs.inside.Each.{each}
use Rattle.guard_model.proofs.Loops.{with_front, goes_on}
use Rattle.guard_constraints.specs.inside.Reading.{Read}

module _ {X A V B : Type 0} (step : A → Read B) (view : X → A) (seen : V → B) (before : List V) (xs : List X) (i : ℕ) (total : Read (List B))
    (so_far : with_front (map seen before) (each step (map view (drop i xs))) ≡ total) where
  pub pushes : (x : X) → i < length xs → x ≡ get_or xs i x → (one : V) (after : List V) → after ≡ before ++ one ∷ [] → step (view x) ≡ Ok (seen one)
      → with_front (map seen after) (each step (map view (drop (i + 1) xs))) ≡ total
  pushes x inside is one after grown made =
      let more = goes_on step view (map seen before) xs i total so_far x x inside is (seen one) made in
      let P : List B → Type 0 = (λ f. with_front f (each step (map view (drop (i + 1) xs))) ≡ total) in
      subst P (sym (ap (map seen) grown ∙ map_push seen before one)) more
