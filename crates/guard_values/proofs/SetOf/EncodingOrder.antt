-- Encodings ascend by a strict weak order.
use Rattle.std.proofs.Common.{◌≡◌, ℕ, Bool, true, false, cond, List, [], ◌∷◌, refl, ap, ◌∙◌, arith}
use Rattle.std.proofs.lemmas.Grind.{common_steps}
use Rattle.std.specs.Cmp.{IsStrictWeakOrder}
use Rattle.guard_der.specs.Fits.{descends}
use Rattle.guard_values.specs.Arrangement.{EncodedValue, inserted_encoding, arranged_encodings}
use Rattle.guard_values.proofs.SetOf.Insertion.{insert_by, sorted_by}

pub one_way : (xs ys : List ℕ) → descends xs ys ≡ true → descends ys xs ≡ false
one_way [] ys e = absurd cc
one_way (x ∷ xs) [] e = refl
one_way (x ∷ xs) (y ∷ ys) e = let h = one_way xs ys in grind (arith, common_steps)

pub chain : (xs ys zs : List ℕ) → descends xs ys ≡ false → descends ys zs ≡ false → descends xs zs ≡ false
chain [] ys zs e f = refl
chain (x ∷ xs) [] [] e f = e
chain (x ∷ xs) [] (z ∷ zs) e f = let h = chain xs [] zs in grind (arith, common_steps)
chain (x ∷ xs) (y ∷ ys) [] e f = let h = chain xs ys [] in grind (arith, common_steps)
chain (x ∷ xs) (y ∷ ys) (z ∷ zs) e f = let h = chain xs ys zs in grind (arith, common_steps)

abbrev pub below : EncodedValue → EncodedValue → Bool
below e f = descends f.octets e.octets

pub below_order : IsStrictWeakOrder below
below_order = record {
  one_way = λ e f. one_way f.octets e.octets;
  chain = λ e f g h k. chain g.octets f.octets e.octets k h;
}

-- ---- arranged by insertion

inserted_is : (e : EncodedValue) (es : List EncodedValue) → insert_by below e es ≡ inserted_encoding e es
inserted_is e [] = refl
inserted_is e (f ∷ fs) = ap (λ (ws : List EncodedValue). cond (descends e.octets f.octets) (f ∷ ws) (e ∷ f ∷ fs)) (inserted_is e fs)

pub arranged_is : (es : List EncodedValue) → sorted_by below es ≡ arranged_encodings es
arranged_is [] = refl
arranged_is (e ∷ es) = ap (insert_by below e) (arranged_is es) ∙ inserted_is e (arranged_encodings es)
