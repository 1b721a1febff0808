-- Where the first line of a text ends.
use Rattle.std.proofs.Common.{◌≡◌, ◌∙◌, ◌<◌, ◌≤◌, ℕ, zero, suc, true, false, cond, List, [], ◌∷◌, ap, refl, sym, subst, length, take, drop, get_or, nat_eq, arith}
use Rattle.guard_notes.specs.Lines.{with_first, lines_of}

eq_true : (o : ℕ) → o ≡ 10 → nat_eq o 10 ≡ true
eq_true o e = subst (λ (n : ℕ). nat_eq n 10 ≡ true) (sym e) refl

eq_false : (o : ℕ) → (o ≡ 10 → ⊥) → nat_eq o 10 ≡ false
eq_false o ne = grind arith

-- the octets before the place are no line feeds, and the one there is
pub first_line : (text : List ℕ) (end : ℕ) → 0 < length text → end ≤ length text → ((k : ℕ) → k < end → get_or text k 0 ≡ 10 → ⊥)
    → (end < length text → get_or text end 0 ≡ 10) → lines_of text ≡ take end text ∷ lines_of (drop (suc end) text)
first_line [] end some within before there = absurd (omega (arith, some))
first_line (o ∷ text) zero some within before there =
    ap (λ b. cond b ([] ∷ lines_of text) (with_first o (lines_of text))) (eq_true o (there (omega arith)))
first_line (o ∷ []) (suc end) some within before there =
    let none : end ≡ 0 = omega (arith, within) in
    ap (λ b. cond b ([] ∷ []) ((o ∷ []) ∷ [])) (eq_false o (before 0 (omega arith)))
    ∙ subst (λ (e : ℕ). (o ∷ []) ∷ [] ≡ take (suc e) (o ∷ []) ∷ lines_of (drop (suc (suc e)) (o ∷ []))) (sym none) refl
first_line (o ∷ p ∷ text) (suc end) some within before there =
    ap (λ b. cond b ([] ∷ lines_of (p ∷ text)) (with_first o (lines_of (p ∷ text)))) (eq_false o (before 0 (omega arith)))
    ∙ ap (with_first o) (first_line (p ∷ text) end (omega arith) (omega (arith, within)) (λ k h. before (suc k) (omega (arith, h))) (λ h. there (omega (arith, h))))

pub last_line : (text : List ℕ) → 0 < length text → ((k : ℕ) → k < length text → get_or text k 0 ≡ 10 → ⊥) → lines_of text ≡ text ∷ []
last_line [] some before = absurd (omega (arith, some))
last_line (o ∷ []) some before = ap (λ b. cond b ([] ∷ []) ((o ∷ []) ∷ [])) (eq_false o (before 0 (omega arith)))
last_line (o ∷ p ∷ text) some before =
    ap (λ b. cond b ([] ∷ lines_of (p ∷ text)) (with_first o (lines_of (p ∷ text)))) (eq_false o (before 0 (omega arith)))
    ∙ ap (with_first o) (last_line (p ∷ text) (omega arith) (λ k h. before (suc k) (omega (arith, h))))
