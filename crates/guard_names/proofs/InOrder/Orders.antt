-- There is one order at most in which each definition comes after all that it uses.
use Rattle.std.proofs.Common.{◌≡◌, ⊎_elim, ℕ, ◌<◌, ◌≤◌, true, false, List, [], ◌∷◌, ◌++◌, refl, sym, ◌∙◌, ap, subst, arith, append_assoc}
use Rattle.std.proofs.lemmas.Bool.{cases_lt}
use Rattle.std.proofs.lemmas.List.{append-nil}
use Rattle.guard_names.specs.Order.{is_listed, IsNext, Follow, OneOrder}

module _ (count : ℕ) (uses : ℕ → ℕ → Type 0) where
  one_next : (listed : List ℕ) (a b : ℕ) → IsNext count uses listed a → IsNext count uses listed b → a ≡ b
  one_next listed a b n m = ⊎_elim
      (λ (l : a < b). absurd (m.first a l n.ready))
      (λ (g : b ≤ a). ⊎_elim (λ (l : b < a). absurd (n.first b l m.ready)) (λ (h : a ≤ b). let e : a ≡ b = omega arith in e) (cases_lt b a))
      (cases_lt a b)

  none_next : (listed : List ℕ) (a : ℕ) → ((number : ℕ) → number < count → is_listed (listed ++ []) number ≡ true) → IsNext count uses listed a → ⊥
  none_next listed a all n =
      let e : is_listed listed a ≡ true = subst (λ x. is_listed x a ≡ true) (append-nil listed) (all a n.ready.below) in
      true_false (sym e ∙ n.ready.unlisted)
    where
      true_false : true ≡ false → ⊥
      true_false h = cc

  same_rest : (listed xs ys : List ℕ) → Follow count uses listed xs → Follow count uses listed ys
      → ((number : ℕ) → number < count → is_listed (listed ++ xs) number ≡ true) → ((number : ℕ) → number < count → is_listed (listed ++ ys) number ≡ true) → xs ≡ ys
  same_rest listed [] [] f g all all' = refl
  same_rest listed [] (y ∷ ys) f g all all' = absurd (none_next listed y all g.0)
  same_rest listed (x ∷ xs) [] f g all all' = absurd (none_next listed x all' f.0)
  same_rest listed (x ∷ xs) (y ∷ ys) f g all all' =
      let e = one_next listed x y f.0 g.0 in
      let r = same_rest (listed ++ x ∷ []) xs ys f.1 (subst (λ z. Follow count uses (listed ++ z ∷ []) ys) (sym e) g.1)
      (λ number h. subst (λ z. is_listed z number ≡ true) (sym (append_assoc listed (x ∷ []) xs)) (all number h))
      (λ number h. subst (λ z. is_listed z number ≡ true) (ap (λ w. listed ++ w ∷ ys) (sym e) ∙ sym (append_assoc listed (x ∷ []) ys)) (all' number h)) in
      cc

  pub one_order : OneOrder count uses
  one_order xs ys f g = same_rest [] xs ys f.follow g.follow f.all g.all
