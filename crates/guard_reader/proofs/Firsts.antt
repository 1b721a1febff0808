-- A text has as many characters as it has octets that begin one.
use Rattle.std.proofs.Common.{◌≡◌, ℕ, ◌+◌, ◌/◌, ◌%◌, ◌^◌, ◌<◌, ◌≤◌, ltb, leb, Bool, true, false, cond, not, ◌&&◌, List, [], ◌∷◌, map, length, take, drop, count_ones, Fits, w8, refl, sym, ap, ap₂, ◌∙◌, arith}
use Rattle.std.specs.List.{count_by}
use Rattle.std.specs.Str.{is_utf8, chars}
use Rattle.std.proofs.lemmas.Bool.{agree_below, agree_below_at, ltb-true, le-leb, lt-leb, and_left, and_right}
use Rattle.std.proofs.lemmas.List.Sums.{sum_by-cons, sum_by-append, sum_by-take-drop, count_by-le-length}
use Rattle.std.proofs.lemmas.List.{length-map}
use Rattle.std.proofs.lemmas.Simd.{map-map, mask_l-mod, ones-mask_l}
use Rattle.std.proofs.lemmas.Str.{IsUtf8-from_is_utf8, encodes-chars}
use lib.Lanes.{mask_l, top, Each1}
use lib.Utf8.{encode, encodes, next}
use Rattle.guard_reader.specs.inside.Firsts.{is_first}

low_first : (o : ℕ) → o < 128 → is_first o ≡ true
low_first o low = ap not (and_left (leb 128 o) (leb o 191) (lt-leb 128 o low))

high_first : (o : ℕ) → 192 ≤ o → is_first o ≡ true
high_first o high = ap not (and_right (leb 128 o) (leb o 191) (lt-leb o 191 (omega (arith, high))))

middle : (o : ℕ) → 128 ≤ o → o ≤ 191 → is_first o ≡ false
middle o low high = ap₂ (λ (a b : Bool). not (a && b)) (le-leb 128 o low) (le-leb o 191 high)

begins : (o : ℕ) (os : List ℕ) → is_first o ≡ true → count_by is_first (o ∷ os) ≡ 1 + count_by is_first os
begins o os e = sum_by-cons (λ o. cond (is_first o) 1 0) o os ∙ ap (λ (b : Bool). cond b 1 0 + count_by is_first os) e

continues : (bits : ℕ) (os : List ℕ) → count_by is_first (next bits ∷ os) ≡ count_by is_first os
continues bits os =
    let small : bits % 64 < 64 = omega arith in
    sum_by-cons (λ o. cond (is_first o) 1 0) (next bits) os
    ∙ ap (λ (b : Bool). cond b 1 0 + count_by is_first os) (middle (next bits) (omega arith) (omega (arith, small)))
    ∙ (let e : 0 + count_by is_first os ≡ count_by is_first os = omega arith in e)

by_length : (c : ℕ) (x y z : Bool) → ltb c 128 ≡ x
    → count_by is_first (cond x (c ∷ []) (cond y ((192 + c / 64) ∷ next c ∷ []) (cond z ((224 + c / 4096) ∷ next (c / 64) ∷ next c ∷ []) ((240 + c / 262144) ∷ next (c / 4096) ∷ next (c / 64) ∷ next c ∷ [])))) ≡ 1
by_length c true y z e = begins c [] (low_first c (ltb-true c 128 e))
by_length c false true z e = begins (192 + c / 64) (next c ∷ []) (high_first (192 + c / 64) (omega arith)) ∙ ap (λ n. 1 + n) (continues c [])
by_length c false false true e = begins (224 + c / 4096) (next (c / 64) ∷ next c ∷ []) (high_first (224 + c / 4096) (omega arith)) ∙ ap (λ n. 1 + n) (continues (c / 64) (next c ∷ []) ∙ continues c [])
by_length c false false false e = begins (240 + c / 262144) (next (c / 4096) ∷ next (c / 64) ∷ next c ∷ []) (high_first (240 + c / 262144) (omega arith)) ∙ ap (λ n. 1 + n) (continues (c / 4096) (next (c / 64) ∷ next c ∷ []) ∙ continues (c / 64) (next c ∷ []) ∙ continues c [])

one_each : (c : ℕ) → count_by is_first (encode c) ≡ 1
unfolding encode
one_each c = by_length c (ltb c 128) (ltb c 2048) (ltb c 65536) refl

all_firsts : (cs : List ℕ) → count_by is_first (encodes cs) ≡ length cs
all_firsts [] = refl
all_firsts (c ∷ cs) =
    let both = sum_by-append (λ o. cond (is_first o) 1 0) (encode c) (encodes cs) in
    omega (arith, both, one_each c, all_firsts cs)

pub firsts_of_text : (os : List ℕ) → is_utf8 os ≡ true → count_by is_first os ≡ length (chars os)
firsts_of_text os e = ap (count_by is_first) (sym (encodes-chars os (IsUtf8-from_is_utf8 os e))) ∙ all_firsts (chars os)

-- ---- lanes

same_on : (p q : ℕ → Bool) → agree_below p q 256 ≡ true → (os : List ℕ) → Each1 (Fits w8) os → map p os ≡ map q os
same_on p q all [] fits = refl
same_on p q all (o ∷ os) fits = ap₂ (λ (b : Bool) (bs : List Bool). b ∷ bs) (agree_below_at p q 256 o all fits.0.fits) (same_on p q all os fits.1)

-- how many lanes are set, of a vector that was computed lane by lane
pub counted_lanes : (q : ℕ → Bool) (v z : List ℕ) (f : ℕ → ℕ) → z ≡ map f v → Each1 (Fits w8) v → length v ≤ 64 → agree_below (λ x. top 7 (f x)) q 256 ≡ true
    → count_ones (mask_l (map (top 7) z) % 2 ^ 64) ≡ count_by q v
counted_lanes q v z f lanes fits few all =
    ap (λ ms. count_ones (mask_l ms % 2 ^ 64)) (ap (map (top 7)) lanes ∙ map-map (top 7) f v ∙ same_on (λ x. top 7 (f x)) q all v fits)
    ∙ ap count_ones (mask_l-mod (map q v) 64 (omega (arith, length-map v q)))
    ∙ ones-mask_l q v

-- ---- the loop

pub goes_on : (os : List ℕ) (count more whole : ℕ) → more ≡ count_by is_first (take 32 os) → count + count_by is_first os ≡ whole → (count + more) + count_by is_first (drop 32 os) ≡ whole
goes_on os count more whole e sum = omega (arith, e, sum, sum_by-take-drop (λ o. cond (is_first o) 1 0) os 32)

pub few : (os : List ℕ) → count_by is_first os ≤ length os
few os = count_by-le-length is_first os
