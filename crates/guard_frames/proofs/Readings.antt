-- A stream has one reading as frames, however it was cut.
use Rattle.std.proofs.Common.{◌≡◌, ◌<◌, ◌≤◌, ◌⊎◌, ℕ, ◌+◌, List, [], ◌∷◌, ◌++◌, ◌∙◌, ap, sym, refl, take, length, inl, inr, append_assoc, length-append, arith}
use Rattle.std.specs.List.{concat, All}
use Rattle.std.proofs.lemmas.Grind.{common_steps}
use Rattle.std.proofs.lemmas.List.Elements.{All-append}
use Rattle.std.proofs.lemmas.List.Folds.{concat-append}
use Rattle.std.proofs.lemmas.List.{append_cancel_left}
use Rattle.std.proofs.Math.Seq.{take-append_seam}
use Rattle.guard_frames.specs.Frames.{stated_length, IsFrame, IsTooLong, IsUnfinished, ConsistsOf}
use Rattle.guard_frames.proofs.Elements.{All_first, All_rest}

-- the length octets stay where something follows
pub stated_length-append : (s t : List ℕ) → 4 ≤ length s → stated_length (s ++ t) ≡ stated_length s
stated_length-append s t h = grind (arith, common_steps)

pub too_long-append : (s t : List ℕ) → IsTooLong s → IsTooLong (s ++ t)
too_long-append s t h = record {
  header = omega (arith, h.header, length-append s t);
  beyond = omega (arith, h.beyond, stated_length-append s t h.header);
}

pub any_cut : (a b : List ℕ) (fs gs : List (List ℕ)) (r q : List ℕ) → ConsistsOf a fs r → ConsistsOf (r ++ b) gs q → ConsistsOf (a ++ b) (fs ++ gs) q
any_cut a b fs gs r q x y = record {
  whole = ap (λ s. s ++ b) x.whole ∙ append_assoc (concat fs) r b ∙ ap (λ s. concat fs ++ s) y.whole
      ∙ sym (append_assoc (concat fs) (concat gs) q) ∙ ap (λ s. s ++ q) (sym (concat-append fs gs));
  each = All-append IsFrame fs gs x.each y.each;
  left = y.left;
}

-- no frame begins where a rest does
pub no_frame : (f s r : List ℕ) → IsFrame f → (IsUnfinished r ⊎ IsTooLong r) → f ++ s ≡ r → ⊥
no_frame f s r frame left e =
    let same : stated_length r ≡ stated_length f = ap stated_length (sym e) ∙ stated_length-append f s frame.header in
    let long : length r ≡ length f + length s = ap length (sym e) ∙ length-append f s in
    elim left [
      | inl u ↦ let header : 4 ≤ length r = omega (arith, frame.header, long) in
          let short : length r < stated_length r + 4 = u.short header in
          omega (arith, short, same, long, frame.exact)
      | inr t ↦ omega (arith, t.beyond, same, frame.allowed)
    ]

pub same_first : (f g s t : List ℕ) → IsFrame f → IsFrame g → f ++ s ≡ g ++ t → f ≡ g
same_first f g s t a b e =
    let same : stated_length f ≡ stated_length g = sym (stated_length-append f s a.header) ∙ ap stated_length e ∙ stated_length-append g t b.header in
    let long : length f ≡ length g = omega (arith, same, a.exact, b.exact) in
    sym (take-append_seam f s) ∙ ap (λ x. take (length f) x) e ∙ ap (λ k. take k (g ++ t)) long ∙ take-append_seam g t

pub one_reading : (fs gs : List (List ℕ)) (r q : List ℕ) → All IsFrame fs → All IsFrame gs →
    (IsUnfinished r ⊎ IsTooLong r) → (IsUnfinished q ⊎ IsTooLong q) → concat fs ++ r ≡ concat gs ++ q → (fs ≡ gs) × (r ≡ q)
one_reading [] [] r q a b x y e = (refl, e)
one_reading [] (g ∷ gs) r q a b x y e =
    absurd (no_frame g (concat gs ++ q) r (All_first IsFrame g gs b) x (sym (append_assoc g (concat gs) q) ∙ sym e))
one_reading (f ∷ fs) [] r q a b x y e =
    absurd (no_frame f (concat fs ++ r) q (All_first IsFrame f fs a) y (sym (append_assoc f (concat fs) r) ∙ e))
one_reading (f ∷ fs) (g ∷ gs) r q a b x y e =
    let e₁ : f ++ (concat fs ++ r) ≡ g ++ (concat gs ++ q) = sym (append_assoc f (concat fs) r) ∙ e ∙ append_assoc g (concat gs) q in
    let head : f ≡ g = same_first f g (concat fs ++ r) (concat gs ++ q) (All_first IsFrame f fs a) (All_first IsFrame g gs b) e₁ in
    let e₂ : f ++ (concat fs ++ r) ≡ f ++ (concat gs ++ q) = e₁ ∙ ap (λ x. x ++ (concat gs ++ q)) (sym head) in
    let rest = one_reading fs gs r q (All_rest IsFrame f fs a) (All_rest IsFrame g gs b) x y
    (append_cancel_left f (concat fs ++ r) (concat gs ++ q) e₂) in
    let tails : fs ≡ gs = rest.0 in
    (ap (λ x. x ∷ fs) head ∙ ap (λ xs. g ∷ xs) tails, rest.1)

pub one_split : (s : List ℕ) (fs gs : List (List ℕ)) (r q : List ℕ) → ConsistsOf s fs r → ConsistsOf s gs q → (fs ≡ gs) × (r ≡ q)
one_split s fs gs r q x y = one_reading fs gs r q x.each y.each x.left y.left (sym x.whole ∙ y.whole)
