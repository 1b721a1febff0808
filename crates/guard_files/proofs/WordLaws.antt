-- Words of a text, as a loop over its octets finds them.
use Rattle.std.proofs.Common.{◌≡◌, ◌∙◌, ◌<◌, ◌≤◌, ℕ, zero, suc, true, false, cond, List, [], ◌∷◌, ap, refl, sym, subst, length, take, get_or, nat_eq, arith}
use Rattle.guard_files.specs.Word.{first_word}

eq_true : (o : ℕ) → o ≡ 32 → nat_eq o 32 ≡ true
eq_true o e = subst (λ (n : ℕ). nat_eq n 32 ≡ true) (sym e) refl

eq_false : (o : ℕ) → (o ≡ 32 → ⊥) → nat_eq o 32 ≡ false
eq_false o ne = grind arith

-- the octets before the place are no spaces, and the one there is
pub word_before : (text : List ℕ) (end : ℕ) → end ≤ length text → ((k : ℕ) → k < end → get_or text k 0 ≡ 32 → ⊥)
    → (end < length text → get_or text end 0 ≡ 32) → take end text ≡ first_word text
word_before [] end within before there =
    let none : end ≡ 0 = omega (arith, within) in
    ap (λ (n : ℕ). take n []) none
word_before (o ∷ text) zero within before there =
    sym (ap (λ b. cond b [] (o ∷ first_word text)) (eq_true o (there (omega arith))))
word_before (o ∷ text) (suc end) within before there =
    ap (λ (s : List ℕ). o ∷ s) (word_before text end (omega (arith, within)) (λ k h. before (suc k) (omega (arith, h)))
    (λ h. there (omega (arith, h))))
    ∙ sym (ap (λ b. cond b [] (o ∷ first_word text)) (eq_false o (before 0 (omega arith))))
