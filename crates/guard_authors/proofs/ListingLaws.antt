-- What a loop over the numbers of a list has, where a definition over lists tells what is left.
use Rattle.std.proofs.Common.{◌≡◌, ◌∙◌, ◌+◌, ℕ, List, ◌∷◌, ◌++◌, Some, drop, ap, sym, append_assoc}
use Rattle.std.specs.Prelude.{slice_get}
use Rattle.std.proofs.lemmas.List.{at_drop_more}
use Rattle.std.proofs.lemmas.Option.{get_or_from_slice_get, slice_get_within}

-- one more is told
pub one_told : {A B : Type 0} (tell : List A → List B) (xs : List A) (i : ℕ) (x : A) (done line rest all : List B) → slice_get xs i ≡ Some x
    → tell (x ∷ drop (i + 1) xs) ≡ line ++ rest → done ++ tell (drop i xs) ≡ all → (done ++ line) ++ rest ≡ all
one_told tell xs i x done line rest all at is so_far =
    let next = at_drop_more tell xs i x (slice_get_within xs i x at) ∙ ap (λ y. tell (y ∷ drop (i + 1) xs)) (get_or_from_slice_get xs i x x at) in
    append_assoc done line rest ∙ ap (λ s. done ++ s) (sym (next ∙ is)) ∙ so_far
