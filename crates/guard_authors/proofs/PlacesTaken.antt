-- The places of constraints, taken from one shortfall after another.
use Rattle.std.proofs.Common.{◌≡◌, ◌∙◌, ◌+◌, ◌<◌, ℕ, List, [], ◌∷◌, ◌++◌, ap, sym, length, map, take, set}
use Rattle.std.proofs.lemmas.List.{map-append, take_more_set}
use Rattle.std.proofs.Math.Seq.{take-append_seam}
use Rattle.guard_eval.specs.Violations.{AbstractViolation, shortfall_view}
use Rattle.guard_eval.specs.declared.violation.Violation.{Violation}
use Rattle.guard_authors.specs.Differing.{displaced_shortfall}

abbrev pub bare_view : ℕ × Violation → ℕ × AbstractViolation
bare_view r = displaced_shortfall (shortfall_view r)

-- the place of one more is taken
pub one_more_taken : {A B : Type 0} (view bare : A → B) (xs : List A) (i : ℕ) (y : A) → i < length xs
    → map view (take i xs) ≡ map bare (take i xs) → view y ≡ bare y
    → map view (take (i + 1) (set xs i y)) ≡ map bare (take (i + 1) (set xs i y))
one_more_taken view bare xs i y inside so_far is =
    let front = take_more_set xs i y inside in
    ap (map view) front
    ∙ map-append view (take i xs) (y ∷ [])
    ∙ ap (λ s. s ++ view y ∷ []) so_far
    ∙ ap (λ b. map bare (take i xs) ++ b ∷ []) is
    ∙ sym (ap (map bare) front ∙ map-append bare (take i xs) (y ∷ []))

-- a list with nothing of another one behind it
pub whole_taken : {A : Type 0} (n : ℕ) (xs others : List A) → n ≡ length xs → take n (xs ++ others) ≡ xs
whole_taken n xs others e = ap (λ k. take k (xs ++ others)) e ∙ take-append_seam xs others
