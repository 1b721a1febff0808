-- A list that is gone through, with what is gathered from each of its elements; and two parts, one after the other.
use Rattle.std.proofs.Common.{◌≡◌, ℕ, ◌+◌, ◌<◌, ◌≤◌, List, [], ◌∷◌, ◌++◌, length, get_or, drop, Result, OnOk, sym, ◌∙◌, ap, append_assoc}
use Rattle.std.proofs.lemmas.List.{append-nil, at_drop_more, at_drop_all}
use Rattle.std.proofs.lemmas.Result.{on_ok_weaker}

module _ {A M : Type 0} (gathered : List A → List M) (xs : List A) (i : ℕ) (total : List M) where
  -- one more element
  pub one_more : (x : A) (part old new : List M) → i < length xs → x ≡ get_or xs i x → new ≡ old ++ part → old ++ gathered (drop i xs) ≡ total
      → gathered (x ∷ drop (i + 1) xs) ≡ part ++ gathered (drop (i + 1) xs) → new ++ gathered (drop (i + 1) xs) ≡ total
  one_more x part old new inside is added so_far first =
      let rest : gathered (drop i xs) ≡ part ++ gathered (drop (i + 1) xs) = at_drop_more gathered xs i x inside ∙ ap (λ y. gathered (y ∷ drop (i + 1) xs)) (sym is) ∙ first in
      ap (λ ys. ys ++ gathered (drop (i + 1) xs)) added ∙ append_assoc old part (gathered (drop (i + 1) xs)) ∙ ap (λ ys. old ++ ys) (sym rest) ∙ so_far

  -- all of them
  pub all_gathered : (new : List M) → length xs ≤ i → gathered [] ≡ [] → new ++ gathered (drop i xs) ≡ total → new ≡ total
  all_gathered new ends nothing so_far = sym (append-nil new) ∙ ap (λ ys. new ++ ys) (sym (at_drop_all gathered xs i ends ∙ nothing)) ∙ so_far

-- what the first part has, and then what the other has
pub one_after_other : {M T E : Type 0} (r : Result T E) (old between new first other : List M) → between ≡ old ++ first → OnOk r (new ≡ between ++ other) → OnOk r (new ≡ old ++ (first ++ other))
one_after_other r old between new first other there h =
    on_ok_weaker r (λ (e : new ≡ between ++ other). e ∙ ap (λ ys. ys ++ other) there ∙ append_assoc old first other) h
