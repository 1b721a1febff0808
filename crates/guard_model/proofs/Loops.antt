-- A loop that takes a step for each of several things: what it has made so far, and what is left.
use Rattle.std.proofs.Common.{◌≡◌, ℕ, ◌+◌, ◌<◌, ◌≤◌, List, [], ◌∷◌, ◌++◌, map, length, get_or, drop, Option, Some, None, Result, Ok, Err, refl, sym, ap, ◌∙◌, append_assoc}
use Rattle.std.proofs.lemmas.List.{append-nil, at_drop_more, at_drop_all}
use Rattle.guard_model.specs.Answer.{◌>>=◌, Refuses}
use Rattle.guard_model.specs.inside.Each.{each}

-- what was made before, and what is still to be made
abbrev pub with_front : {A F : Type 0} → List A → Result (List A) F → Result (List A) F
with_front front rest = rest >>= λ xs. Ok (front ++ xs)

pub with_front_none : {A F : Type 0} (rest : Result (List A) F) → with_front [] rest ≡ rest
with_front_none (Ok xs) = refl
with_front_none (Err f) = refl

pub with_front_more : {A F : Type 0} (front : List A) (x : A) (rest : Result (List A) F) → with_front front (rest >>= λ xs. Ok (x ∷ xs)) ≡ with_front (front ++ x ∷ []) rest
with_front_more front x (Ok xs) = ap Ok (sym (append_assoc front (x ∷ []) xs))
with_front_more front x (Err f) = refl

module _ {X A B F : Type 0} (step : A → Result B F) (view : X → A) (front : List B) (xs : List X) (i : ℕ) (total : Result (List B) F)
    (so_far : with_front front (each step (map view (drop i xs))) ≡ total) where
  pub stops_at : (d x : X) → i < length xs → x ≡ get_or xs i d → (fault : Option F) → Refuses fault (step (view x)) → Refuses fault total
  unfolding each
  stops_at d x lt is None refused = tt
  stops_at d x lt is (Some f) refused =
      let all : with_front front (each step (map view (drop i xs))) ≡ Err f = rw (at_drop_more (map view) xs i d lt, ← is, refused) refl in
      sym so_far ∙ all

  pub goes_on : (d x : X) → i < length xs → x ≡ get_or xs i d → (one : B) → step (view x) ≡ Ok one → with_front (front ++ one ∷ []) (each step (map view (drop (i + 1) xs))) ≡ total
  unfolding each
  goes_on d x lt is one made =
      let all : with_front front (each step (map view (drop i xs))) ≡ with_front (front ++ one ∷ []) (each step (map view (drop (i + 1) xs))) =
      rw (at_drop_more (map view) xs i d lt, ← is, made) (with_front_more front one (each step (map view (drop (i + 1) xs)))) in
      sym all ∙ so_far

  pub ends_there : length xs ≤ i → total ≡ Ok front
  unfolding each
  ends_there le =
      let all : with_front front (each step (map view (drop i xs))) ≡ Ok front = rw (at_drop_all (map view) xs i le) (ap Ok (append-nil front)) in
      sym so_far ∙ all
