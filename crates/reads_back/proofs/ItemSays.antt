-- Elements: as a list, how many, each short, and arranged as they are.
use Rattle.std.proofs.Common.{◌≡◌, ℕ, suc, Bool, true, false, ◌&&◌, not, List, [], ◌∷◌, length, Option, Some, None, refl, sym, ap, subst, ◌∙◌}
use Rattle.std.proofs.lemmas.Bool.{and_parts, and_from, cond-false, false≢true}
use Rattle.std.proofs.lemmas.Option.{same_Some, none-some}
use Rattle.guard_model.specs.AbstractType.{AbstractType}
use Rattle.guard_model.specs.AbstractValue as value
use Rattle.guard_model.specs.AbstractValue.{AbstractValue, Items, items_of}
use Rattle.guard_model.specs.Counts.{item_count}
use Rattle.guard_der.specs.Der.{der, item_encodings, ◌>>=◌}
use Rattle.guard_der.specs.Fits.{descends, ascend_from, are_ascending}
use Rattle.guard_values.specs.Arrangement.{octets_in, comes_after, inserted, arranged, are_short}
use Rattle.guard_values.proofs.OneAnswer.LengthsInside.{AreWithin, within_short}

abbrev pub values_in : Items → List AbstractValue
values_in value.no_items = []
values_in (value.item v vs) = v ∷ values_in vs

pub items_again : (vs : Items) → items_of (values_in vs) ≡ vs
items_again value.no_items = refl
items_again (value.item v vs) = ap (value.item v) (items_again vs)

pub count_same : (vs : Items) → length (values_in vs) ≡ item_count vs
count_same value.no_items = refl
count_same (value.item v vs) = ap (λ (n : ℕ). suc n) (count_same vs)

pub short_each : (u : AbstractType) (ws : List AbstractValue) → AreWithin 1048576 u ws → are_short u ws ≡ true
short_each u [] h = refl
short_each u (w ∷ ws) h = and_from _ _ (within_short (der u w) h.0) (short_each u ws h.1)

then_some : {A B : Type 0} (o : Option A) (f : A → Option B) (y : B) → (o >>= f) ≡ Some y → (x : A) × (o ≡ Some x) × (f x ≡ Some y)
then_some None f y e = absurd (none-some y e)
then_some (Some x) f y e = (x, refl, e)

-- the first encoding and the others
record Encoded (u : AbstractType) (v : AbstractValue) (vs : Items) (es : List (List ℕ)) : Type 0 where
  first : List ℕ
  others : List (List ℕ)
  split : first ∷ others ≡ es
  first_is : der u v ≡ Some first
  others_are : item_encodings (der u) vs ≡ Some others

encoded : (u : AbstractType) (v : AbstractValue) (vs : Items) (es : List (List ℕ)) → item_encodings (der u) (value.item v vs) ≡ Some es → Encoded u v vs es
encoded u v vs es e =
    let a = then_some (der u v) (λ first. item_encodings (der u) vs >>= λ others. Some (first ∷ others)) es e in
    let b = then_some (item_encodings (der u) vs) (λ others. Some (a.0 ∷ others)) es a.2 in
    record { first = a.0; others = b.0; split = same_Some (a.0 ∷ b.0) es b.2; first_is = a.1; others_are = b.1 }

not_true : (b : Bool) → not b ≡ true → b ≡ false
not_true true h = absurd (false≢true h)
not_true false h = refl

comes_first : (u : AbstractType) (v : AbstractValue) (vs : Items) (first : List ℕ) (others : List (List ℕ)) → der u v ≡ Some first → item_encodings (der u) vs ≡ Some others → ascend_from first others ≡ true
    → inserted u v (values_in vs) ≡ v ∷ values_in vs
comes_first u v value.no_items first others is are ascend = refl
comes_first u v (value.item w ws) first others is are ascend =
    let e = encoded u w ws others are in
    let steps : (not (descends first e.first) && ascend_from e.first e.others) ≡ true = subst (λ (xs : List (List ℕ)). ascend_from first xs ≡ true) (sym e.split) ascend in
    let next : descends first e.first ≡ false = not_true (descends first e.first) (and_parts (not (descends first e.first)) (ascend_from e.first e.others) steps).0 in
    let step : comes_after u v w ≡ descends first e.first = λ i. descends (octets_in (is i)) (octets_in (e.first_is i)) in
    let behind : comes_after u v w ≡ false = step ∙ next in
    cond-false (comes_after u v w) (w ∷ inserted u v (values_in ws)) (v ∷ w ∷ values_in ws) behind

arranged_from : (u : AbstractType) (vs : Items) (before : List ℕ) (es : List (List ℕ)) → item_encodings (der u) vs ≡ Some es → ascend_from before es ≡ true → arranged u (values_in vs) ≡ values_in vs
arranged_from u value.no_items before es are ascend = refl
arranged_from u (value.item v vs) before es are ascend =
    let e = encoded u v vs es are in
    let steps : (not (descends before e.first) && ascend_from e.first e.others) ≡ true = subst (λ (xs : List (List ℕ)). ascend_from before xs ≡ true) (sym e.split) ascend in
    let later : ascend_from e.first e.others ≡ true = (and_parts (not (descends before e.first)) (ascend_from e.first e.others) steps).1 in
    ap (inserted u v) (arranged_from u vs e.first e.others e.others_are later) ∙ comes_first u v vs e.first e.others e.first_is e.others_are later

arranged_by : (u : AbstractType) (vs : Items) (o : Option (List (List ℕ))) → item_encodings (der u) vs ≡ o → are_ascending o ≡ true → arranged u (values_in vs) ≡ values_in vs
arranged_by u vs None are h = absurd (false≢true h)
arranged_by u vs (Some es) are h = arranged_from u vs [] es are h

pub arranged_same : (u : AbstractType) (vs : Items) → are_ascending (item_encodings (der u) vs) ≡ true → arranged u (values_in vs) ≡ values_in vs
arranged_same u vs h = arranged_by u vs (item_encodings (der u) vs) refl h
