-- The contents octets of an OBJECT IDENTIFIER and the numbers that they spell.
use Rattle.std.proofs.Common.{◌≡◌, ℕ, suc, ◌+◌, ◌-◌, ◌*◌, ◌/◌, ◌%◌, ◌^◌, ◌<◌, ◌≤◌, Bool, true, false, cond, ltb, eqb, List, [], ◌∷◌, ◌++◌, length, refl, sym, ap, ◌∙◌, append_assoc, arith, inl, inr}
use Rattle.std.specs.Prelude.{◌&&◌, not, flat_map}
use Rattle.std.proofs.Math.Nat.{pow-succ', mul_assoc, pow-le-pow_right, pow-zero, mul-one}
use Rattle.std.proofs.lemmas.Bool.{cond-true, cond-false, lt-ltb, le-ltb, ltb-true, ltb-false, eqb-false, ne_eqb, cases_lt, and_parts, not-true}
use Rattle.std.proofs.lemmas.Nat.{mul-le, div-add-mod'}
use Rattle.std.proofs.lemmas.List.{map-append, length-append}
use Rattle.guard_der.specs.Octets.{fewest, base_128}
use Rattle.guard_der.specs.Fits.{all_below}
use Rattle.guard_der.specs.Simple.{are_subidentifiers, subidentifiers}
use Rattle.guard_der.proofs.Numbers.Digits.{spell, spell_append, AreDigits, digits_append, fewest_least, fewest_spells, fewest_digits}
use Rattle.guard_der.proofs.Headers.TagsAndLengths.{marked, base_128_is, first_some}

shifted : (n : ℕ) → 128 ^ suc n ≡ 128 * 128 ^ n
shifted n = pow-succ' 128 n

spell_large : (n : ℕ) (ds : List ℕ) → n * 128 ^ length ds ≤ spell 128 n ds
spell_large n [] = omega (arith, ap (λ (p : ℕ). n * p) (pow-zero 128), mul-one n)
spell_large n (d ∷ ds) =
    let rest : (n * 128 + d) * 128 ^ length ds ≤ spell 128 (n * 128 + d) ds = spell_large (n * 128 + d) ds in
    let less : (n * 128) * 128 ^ length ds ≤ (n * 128 + d) * 128 ^ length ds = mul-le (n * 128) (128 ^ length ds) (n * 128 + d) (128 ^ length ds) (omega arith) (omega arith) in
    let whole : n * 128 ^ suc (length ds) ≡ (n * 128) * 128 ^ length ds = ap (λ (p : ℕ). n * p) (shifted (length ds)) ∙ sym (mul_assoc n 128 (128 ^ length ds)) in
    omega (arith, rest, less, whole)

few_digits : (a d : ℕ) (ds : List ℕ) → 1 ≤ a → spell 128 a ds * 128 + d < 2 ^ 128 → length ds ≤ 17
few_digits a d ds some small =
    elim (cases_lt (length ds) 18) [
      | inl few ↦ omega (arith, few)
      | inr many ↦
          let large = spell_large a ds in
          let one : 1 * 128 ^ length ds ≤ a * 128 ^ length ds = mul-le 1 (128 ^ length ds) a (128 ^ length ds) some (omega arith) in
          let power : 128 ^ 18 ≤ 128 ^ length ds = pow-le-pow_right {n = 128} (omega arith) {i = 18} {j = length ds} many in
          absurd (omega (arith, large, one, power, small))
    ]

pub single : (n : ℕ) → n < 128 → base_128 n ≡ n ∷ []
unfolding base_128
single n low = cond-true (ltb n 128) _ _ (lt-ltb n 128 low)

pub several : (n : ℕ) → 128 ≤ n → base_128 n ≡ marked (fewest 128 128 17 (n / 128)) ++ (n % 128) ∷ []
unfolding base_128
several n high = cond-false (ltb n 128) _ _ (le-ltb n 128 high)

-- octets that begin a subidentifier
abbrev Started : List ℕ → Type 0
Started os = are_subidentifiers true os ≡ true → all_below (2 ^ 128) (subidentifiers 0 os) ≡ true → flat_map base_128 (subidentifiers 0 os) ≡ os

-- octets that go on with one
abbrev Begun : List ℕ → Type 0
Begun os = (a : ℕ) (ds : List ℕ) → 1 ≤ a → a < 128 → AreDigits 128 ds → are_subidentifiers false os ≡ true → all_below (2 ^ 128) (subidentifiers (spell 128 a ds) os) ≡ true
    → flat_map base_128 (subidentifiers (spell 128 a ds) os) ≡ marked (a ∷ ds) ++ os

begun_step : (o : ℕ) (os : List ℕ) (last : Bool) → Started os → Begun os → o < 256 → ltb o 128 ≡ last → (a : ℕ) (ds : List ℕ) → 1 ≤ a → a < 128 → AreDigits 128 ds → are_subidentifiers last os ≡ true
    → all_below (2 ^ 128) (cond last ((spell 128 a ds * 128 + o) ∷ subidentifiers 0 os) (subidentifiers (spell 128 a ds * 128 + (o - 128)) os)) ≡ true
    → flat_map base_128 (cond last ((spell 128 a ds * 128 + o) ∷ subidentifiers 0 os) (subidentifiers (spell 128 a ds * 128 + (o - 128)) os)) ≡ marked (a ∷ ds) ++ o ∷ os
begun_step o os true started begun octet test a ds some small digits form below =
    let b = and_parts (ltb (spell 128 a ds * 128 + o) (2 ^ 128)) (all_below (2 ^ 128) (subidentifiers 0 os)) below in
    let few = few_digits a o ds some (ltb-true (spell 128 a ds * 128 + o) (2 ^ 128) b.0) in
    let one = base_128_is a o ds some small digits few (ltb-true o 128 test) in
    let rest = started form b.1 in
    ap (λ (x : List ℕ). x ++ flat_map base_128 (subidentifiers 0 os)) one ∙ ap (λ (x : List ℕ). (marked (a ∷ ds) ++ o ∷ []) ++ x) rest ∙ append_assoc (marked (a ∷ ds)) (o ∷ []) os
begun_step o os false started begun octet test a ds some small digits form below =
    let high : 128 ≤ o = ltb-false o 128 test in
    let number : spell 128 a (ds ++ (o - 128) ∷ []) ≡ spell 128 a ds * 128 + (o - 128) = spell_append 128 a ds ((o - 128) ∷ []) in
    let more : AreDigits 128 (ds ++ (o - 128) ∷ []) = digits_append 128 ds ((o - 128) ∷ []) digits (omega (arith, octet), tt) in
    let rest = begun a (ds ++ (o - 128) ∷ []) some small more form (rw number below) in
    let whole : 128 + (o - 128) ≡ o = omega arith in
    ap (λ (n : ℕ). flat_map base_128 (subidentifiers n os)) (sym number) ∙ rest
    ∙ ap (λ (x : List ℕ). ((128 + a) ∷ x) ++ os) (map-append (λ (d : ℕ). 128 + d) ds ((o - 128) ∷ []))
    ∙ append_assoc (marked (a ∷ ds)) ((128 + (o - 128)) ∷ []) os ∙ ap (λ (n : ℕ). marked (a ∷ ds) ++ n ∷ os) whole

started_step : (o : ℕ) (os : List ℕ) (last : Bool) → Started os → Begun os → o < 256 → ltb o 128 ≡ last → eqb o 128 ≡ false → are_subidentifiers last os ≡ true
    → all_below (2 ^ 128) (cond last ((0 * 128 + o) ∷ subidentifiers 0 os) (subidentifiers (0 * 128 + (o - 128)) os)) ≡ true
    → flat_map base_128 (cond last ((0 * 128 + o) ∷ subidentifiers 0 os) (subidentifiers (0 * 128 + (o - 128)) os)) ≡ o ∷ os
started_step o os true started begun octet test not_80 form below =
    let b = and_parts (ltb (0 * 128 + o) (2 ^ 128)) (all_below (2 ^ 128) (subidentifiers 0 os)) below in
    let rest = started form b.1 in
    let number : 0 * 128 + o ≡ o = omega arith in
    ap (λ (n : ℕ). base_128 n ++ flat_map base_128 (subidentifiers 0 os)) number ∙ ap (λ (x : List ℕ). x ++ flat_map base_128 (subidentifiers 0 os)) (single o (ltb-true o 128 test)) ∙ ap (λ (x : List ℕ). o ∷ x) rest
started_step o os false started begun octet test not_80 form below =
    let high : 128 ≤ o = ltb-false o 128 test in
    let ne : o ≡ 128 → ⊥ = eqb-false o 128 not_80 in
    let number : 0 * 128 + (o - 128) ≡ o - 128 = omega arith in
    let rest = begun (o - 128) [] (omega (arith, ne)) (omega (arith, octet)) tt form (rw (← number) below) in
    let whole : 128 + (o - 128) ≡ o = omega arith in
    ap (λ (n : ℕ). flat_map base_128 (subidentifiers n os)) number ∙ rest ∙ ap (λ (n : ℕ). n ∷ os) whole

none_goes_on : Begun []
none_goes_on a ds some small digits form below = absurd cc

both : (os : List ℕ) → AreDigits 256 os → Started os × Begun os
both [] octets = (λ form below. refl, none_goes_on)
both (o ∷ os) octets =
    let ih = both os octets.1 in (
      λ form below.
          let f = and_parts (not (eqb o 128)) (are_subidentifiers (ltb o 128) os) form in
          started_step o os (ltb o 128) ih.0 ih.1 octets.0 refl (not-true (eqb o 128) f.0) f.1 below,
      λ a ds some small digits form below. begun_step o os (ltb o 128) ih.0 ih.1 octets.0 refl a ds some small digits form below,
    )

pub takes_start : (os : List ℕ) → AreDigits 256 os → are_subidentifiers true os ≡ true → all_below (2 ^ 128) (subidentifiers 0 os) ≡ true → flat_map base_128 (subidentifiers 0 os) ≡ os
takes_start os octets = (both os octets).0

-- ---- the way back

again_digits : (m : ℕ) (ds : List ℕ) (d : ℕ) (rest : List ℕ) → AreDigits 128 ds → d < 128
    → (are_subidentifiers false ((marked ds ++ d ∷ []) ++ rest) ≡ are_subidentifiers true rest) × (subidentifiers m ((marked ds ++ d ∷ []) ++ rest) ≡ (spell 128 m ds * 128 + d) ∷ subidentifiers 0 rest)
again_digits m [] d rest digits small =
    (ap (λ (b : Bool). are_subidentifiers b rest) (lt-ltb d 128 small), cond-true (ltb d 128) _ _ (lt-ltb d 128 small))
again_digits m (e ∷ ds) d rest digits small =
    let high : ltb (128 + e) 128 ≡ false = le-ltb (128 + e) 128 (omega arith) in
    let low : (128 + e) - 128 ≡ e = omega arith in
    let others = again_digits (m * 128 + e) ds d rest digits.1 small in (
      ap (λ (b : Bool). are_subidentifiers b ((marked ds ++ d ∷ []) ++ rest)) high ∙ others.0,
      cond-false (ltb (128 + e) 128) _ _ high ∙ ap (λ (k : ℕ). subidentifiers (m * 128 + k) ((marked ds ++ d ∷ []) ++ rest)) low ∙ others.1,
    )

pub again_one : (n : ℕ) (rest : List ℕ) → n < 2 ^ 128 → (are_subidentifiers true (base_128 n ++ rest) ≡ are_subidentifiers true rest) × (subidentifiers 0 (base_128 n ++ rest) ≡ n ∷ subidentifiers 0 rest)
again_one n rest small =
    elim (cases_lt n 128) [
      | inl low ↦
          let test : ltb n 128 ≡ true = lt-ltb n 128 low in
          let not_80 : eqb n 128 ≡ false = ne_eqb n 128 (λ e. absurd (omega (arith, e, low))) in
          let number : 0 * 128 + n ≡ n = omega arith in (
            ap (λ (x : List ℕ). are_subidentifiers true (x ++ rest)) (single n low) ∙ ap (λ (b : Bool). not b && are_subidentifiers (ltb n 128) rest) not_80 ∙ ap (λ (b : Bool). are_subidentifiers b rest) test,
            ap (λ (x : List ℕ). subidentifiers 0 (x ++ rest)) (single n low) ∙ cond-true (ltb n 128) _ _ test ∙ ap (λ (k : ℕ). k ∷ subidentifiers 0 rest) number,
          )
      | inr high ↦
          let below : n / 128 < 128 * 128 ^ 17 = omega (arith, div-add-mod' n 128) in
          let digits = fewest_digits 128 128 17 (n / 128) (omega arith) (omega arith) below in
          let least = fewest_least 128 128 17 (n / 128) (omega arith) below in
          let number : spell 128 0 (fewest 128 128 17 (n / 128)) * 128 + n % 128 ≡ n = ap (λ (k : ℕ). k * 128 + n % 128) (fewest_spells 128 128 17 (n / 128)) ∙ div-add-mod' n 128 in
          let some : 1 ≤ spell 128 0 (fewest 128 128 17 (n / 128)) = rw (fewest_spells 128 128 17 (n / 128)) (omega (arith, high)) in
          let f = first_some 128 (fewest 128 128 17 (n / 128)) digits least some in
          let whole : base_128 n ≡ marked (f.0 ∷ f.1) ++ (n % 128) ∷ [] = several n high ∙ ap (λ (x : List ℕ). marked x ++ (n % 128) ∷ []) f.2 in
          let first : f.0 < 128 = (rw f.2 at digits).0 in
          let others = again_digits (0 * 128 + f.0) f.1 (n % 128) rest (rw f.2 at digits).1 (omega arith) in
          let low : (128 + f.0) - 128 ≡ f.0 = omega arith in
          let test : ltb (128 + f.0) 128 ≡ false = le-ltb (128 + f.0) 128 (omega arith) in
          let not_80 : eqb (128 + f.0) 128 ≡ false = ne_eqb (128 + f.0) 128 (λ e. absurd (omega (arith, e, f.3))) in
          let spelled : spell 128 (0 * 128 + f.0) f.1 * 128 + n % 128 ≡ n = ap (λ (x : List ℕ). spell 128 0 x * 128 + n % 128) (sym f.2) ∙ number in (
            ap (λ (x : List ℕ). are_subidentifiers true (x ++ rest)) whole
                ∙ ap (λ (b : Bool). not b && are_subidentifiers (ltb (128 + f.0) 128) ((marked f.1 ++ (n % 128) ∷ []) ++ rest)) not_80
                ∙ ap (λ (b : Bool). are_subidentifiers b ((marked f.1 ++ (n % 128) ∷ []) ++ rest)) test ∙ others.0,
            ap (λ (x : List ℕ). subidentifiers 0 (x ++ rest)) whole ∙ cond-false (ltb (128 + f.0) 128) _ _ test
                ∙ ap (λ (k : ℕ). subidentifiers (0 * 128 + k) ((marked f.1 ++ (n % 128) ∷ []) ++ rest)) low ∙ others.1 ∙ ap (λ (k : ℕ). k ∷ subidentifiers 0 rest) spelled,
          )
    ]

pub again_all : (ns : List ℕ) → all_below (2 ^ 128) ns ≡ true → (are_subidentifiers true (flat_map base_128 ns) ≡ true) × (subidentifiers 0 (flat_map base_128 ns) ≡ ns)
again_all [] below = (refl, refl)
again_all (n ∷ ns) below =
    let b = and_parts (ltb n (2 ^ 128)) (all_below (2 ^ 128) ns) below in
    let one = again_one n (flat_map base_128 ns) (ltb-true n (2 ^ 128) b.0) in
    let others = again_all ns b.1 in
    (one.0 ∙ others.0, one.1 ∙ ap (λ (x : List ℕ). n ∷ x) others.1)

pub base_some : (n : ℕ) → 0 < length (base_128 n)
base_some n = elim (cases_lt n 128) [
  | inl low ↦ omega (arith, ap length (single n low))
  | inr high ↦ omega (arith, ap length (several n high), length-append (marked (fewest 128 128 17 (n / 128))) ((n % 128) ∷ []))
]
