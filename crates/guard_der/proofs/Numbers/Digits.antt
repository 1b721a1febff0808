-- Digits to a base: what they spell, and which are the fewest.
use Rattle.std.proofs.Common.{◌≡◌, ℕ, zero, suc, ◌+◌, ◌-◌, ◌*◌, ◌/◌, ◌%◌, ◌^◌, ◌<◌, ◌≤◌, cond, ltb, List, [], ◌∷◌, ◌++◌, length, take, get_or, refl, sym, ap, ◌∙◌, append_assoc, add-one, zero-add, arith}
use Rattle.std.specs.Prelude.{fold}
use Rattle.std.specs.List.{AllByRecursion}
use Rattle.std.proofs.Math.Nat.{pow-suc, pow-zero, mul-one, mul_assoc, mod-lt, suc-add, pow-le-pow_right, div-lt_iff_lt-mul}
use Rattle.std.proofs.Math.Seq.{take-suc}
use Rattle.std.proofs.lemmas.Bool.{cond_both, cond-true, cond-false, lt-ltb, le-ltb, ltb-true, ltb-false}
use Rattle.std.proofs.lemmas.Nat.{div-mul-add, mod-mul-add, div-add-mod', mul-le}
use Rattle.std.proofs.lemmas.List.{length-append, append-nil}
use Rattle.std.proofs.lemmas.List.Sums.{fold-append}
use Rattle.guard_der.specs.Octets.{fewest, big_endian}
use Rattle.guard_der.proofs.Numbers.Widths.{room_next}

-- the number n with more digits after it
abbrev pub spell : ℕ → ℕ → List ℕ → ℕ
spell base n digits = fold (λ (m d : ℕ). m * base + d) n digits

abbrev pub AreDigits : ℕ → List ℕ → Type 0
AreDigits base digits = AllByRecursion (λ d. d < base) digits

pub digits_append : (base : ℕ) (xs ys : List ℕ) → AreDigits base xs → AreDigits base ys → AreDigits base (xs ++ ys)
digits_append base [] ys p q = q
digits_append base (x ∷ xs) ys p q = (p.0, digits_append base xs ys p.1 q)

pub spell_append : (base n : ℕ) (xs ys : List ℕ) → spell base n (xs ++ ys) ≡ spell base (spell base n xs) ys
spell_append base n xs ys = fold-append (λ (m d : ℕ). m * base + d) n xs ys

-- one octet more
pub spell_next : (os : List ℕ) (i : ℕ) → i < length os → big_endian (take i os) * 256 + get_or os i 0 ≡ big_endian (take (i + 1) os)
spell_next os i h =
    let more : take (i + 1) os ≡ take i os ++ get_or os i 0 ∷ [] = rw add-one (take-suc os i 0 h) in
    sym (ap big_endian more ∙ spell_append 256 0 (take i os) (get_or os i 0 ∷ []))

no_places : (base limit : ℕ) → limit * base ^ zero ≡ limit
no_places base limit = ap (λ (p : ℕ). limit * p) (pow-zero base) ∙ mul-one limit

-- digits after n make less than the next number with as many zeros
pub spell_bound : (base n : ℕ) (ds : List ℕ) → AreDigits base ds → spell base n ds < (n + 1) * base ^ length ds
spell_bound base n [] h = rw (no_places base (n + 1)) (omega arith)
spell_bound base n (d ∷ ds) h =
    let rest : spell base (n * base + d) ds < (n * base + d + 1) * base ^ length ds = spell_bound base (n * base + d) ds h.1 in
    let step = room_next base (suc (length ds)) (length ds) n d ((n + 1) * base ^ suc (length ds)) refl h.0 (omega arith) in
    omega (arith, rest, step)

-- the fewest digits of a number spell it
pub fewest_spells : (base limit more n : ℕ) → spell base 0 (fewest base limit more n) ≡ n
unfolding fewest
fewest_spells base limit zero n = omega arith
fewest_spells base limit (suc more) n =
    cond_both (ltb n limit) (n ∷ []) (fewest base limit more (n / base) ++ (n % base) ∷ []) (λ ds. spell base 0 ds ≡ n)
    (λ _. omega arith)
    (λ _. spell_append base 0 (fewest base limit more (n / base)) ((n % base) ∷ []) ∙ ap (λ (m : ℕ). m * base + n % base) (fewest_spells base limit more (n / base)) ∙ div-add-mod' n base)

-- one more digit after the fewest of a number
pub fewest_next : (base limit more n d : ℕ) → d < base → limit ≤ n * base + d → fewest base limit (suc more) (n * base + d) ≡ fewest base limit more n ++ d ∷ []
unfolding fewest
fewest_next base limit more n d small large =
    let quotient : (n * base + d) / base ≡ n = div-mul-add n base d small in
    let rest : (n * base + d) % base ≡ d = mod-mul-add n base d small in
    cond-false (ltb (n * base + d) limit) _ _ (le-ltb (n * base + d) limit large) ∙ ap (λ (m : ℕ). fewest base limit more m ++ ((n * base + d) % base) ∷ []) quotient ∙ ap (λ (r : ℕ). fewest base limit more n ++ r ∷ []) rest

-- more digits after the fewest of a number that isn't 0
pub fewest_behind : (base limit more n : ℕ) (ds : List ℕ) → limit ≤ base → 1 ≤ n → AreDigits base ds → fewest base limit (length ds + more) (spell base n ds) ≡ fewest base limit more n ++ ds
fewest_behind base limit more n [] le some h = ap (λ (k : ℕ). fewest base limit k n) (zero-add more) ∙ sym (append-nil (fewest base limit more n))
fewest_behind base limit more n (d ∷ ds) le some h =
    let large : 1 * base ≤ n * base = mul-le 1 base n base some (omega arith) in
    let k : suc (length ds) + more ≡ length ds + suc more = omega arith in
    ap (λ (k : ℕ). fewest base limit k (spell base (n * base + d) ds)) k
    ∙ fewest_behind base limit (suc more) (n * base + d) ds le (omega arith) h.1
    ∙ ap (λ (x : List ℕ). x ++ ds) (fewest_next base limit more n d h.0 (omega (arith, large)))
    ∙ append_assoc (fewest base limit more n) (d ∷ []) ds

part_below : (base limit more n : ℕ) → 0 < base → n < limit * base ^ suc more → n / base < limit * base ^ more
part_below base limit more n some h = (div-lt_iff_lt-mul {k = base} {x = n} {y = limit * base ^ more} some).1 (omega (arith, h, ap (λ (p : ℕ). limit * p) (pow-suc base more), mul_assoc limit (base ^ more) base))

-- a greater bound on the count of digits changes nothing
fewest_once : (base limit more n : ℕ) → 0 < base → n < limit * base ^ more → fewest base limit (suc more) n ≡ fewest base limit more n
unfolding fewest
fewest_once base limit zero n some h = cond-true (ltb n limit) _ _ (lt-ltb n limit (omega (arith, no_places base limit)))
fewest_once base limit (suc more) n some h =
    let part : n / base < limit * base ^ more = part_below base limit more n some h in
    ap (λ (ds : List ℕ). cond (ltb n limit) (n ∷ []) (ds ++ (n % base) ∷ [])) (fewest_once base limit more (n / base) some part)

pub fewest_enough : (base limit extra more n : ℕ) → 0 < base → n < limit * base ^ more → fewest base limit (extra + more) n ≡ fewest base limit more n
fewest_enough base limit zero more n some h = ap (λ (k : ℕ). fewest base limit k n) (zero-add more)
fewest_enough base limit (suc extra) more n some h =
    let wide : base ^ more ≤ base ^ (extra + more) = pow-le-pow_right some (omega arith) in
    let wider = mul-le limit (base ^ more) limit (base ^ (extra + more)) (omega arith) wide in
    ap (λ (k : ℕ). fewest base limit k n) (suc-add extra more) ∙ fewest_once base limit (extra + more) n some (omega (arith, wider)) ∙ fewest_enough base limit extra more n some h

pub fewest_digits : (base limit more n : ℕ) → 0 < base → limit ≤ base → n < limit * base ^ more → AreDigits base (fewest base limit more n)
unfolding fewest
fewest_digits base limit zero n some le h = (omega (arith, no_places base limit), tt)
fewest_digits base limit (suc more) n some le h =
    cond_both (ltb n limit) (n ∷ []) (fewest base limit more (n / base) ++ (n % base) ∷ []) (λ ds. AreDigits base ds)
    (λ e. (omega (arith, ltb-true n limit e), tt))
    (λ _. digits_append base (fewest base limit more (n / base)) ((n % base) ∷ []) (fewest_digits base limit more (n / base) some le (part_below base limit more n some h)) (mod-lt n some, tt))

pub fewest_length : (base limit more n : ℕ) → length (fewest base limit more n) ≤ suc more
unfolding fewest
fewest_length base limit zero n = omega arith
fewest_length base limit (suc more) n =
    cond_both (ltb n limit) (n ∷ []) (fewest base limit more (n / base) ++ (n % base) ∷ []) (λ ds. length ds ≤ suc (suc more))
    (λ _. omega arith)
    (λ _. omega (arith, fewest_length base limit more (n / base), length-append (fewest base limit more (n / base)) ((n % base) ∷ [])))

-- One digit is below the limit. The first of several is below it too, and the first two together are not.
abbrev pub AreLeast : ℕ → ℕ → List ℕ → Type 0
AreLeast base limit [] = ⊥
AreLeast base limit (d ∷ []) = d < limit
AreLeast base limit (d ∷ e ∷ ds) = (d < limit) × (limit ≤ d * base + e)

least_append : (base limit : ℕ) (ds : List ℕ) (d : ℕ) → AreLeast base limit ds → limit ≤ spell base 0 ds * base + d → AreLeast base limit (ds ++ d ∷ [])
least_append base limit [] d h large = absurd h
least_append base limit (a ∷ []) d h large = (h, omega (arith, large))
least_append base limit (a ∷ b ∷ ds) d h large = h

pub fewest_least : (base limit more n : ℕ) → 0 < base → n < limit * base ^ more → AreLeast base limit (fewest base limit more n)
unfolding fewest
fewest_least base limit zero n some h = omega (arith, no_places base limit)
fewest_least base limit (suc more) n some h =
    cond_both (ltb n limit) (n ∷ []) (fewest base limit more (n / base) ++ (n % base) ∷ []) (λ ds. AreLeast base limit ds)
    (λ e. ltb-true n limit e)
    (λ e. least_append base limit (fewest base limit more (n / base)) (n % base) (fewest_least base limit more (n / base) some (part_below base limit more n some h))
    (rw (fewest_spells base limit more (n / base), div-add-mod' n base) (ltb-false n limit e)))

-- the least digits of a number are its fewest
pub least_fewest : (base limit most : ℕ) (ds : List ℕ) → 1 ≤ limit → limit ≤ base → AreDigits base ds → AreLeast base limit ds → length ds ≤ suc most → fewest base limit most (spell base 0 ds) ≡ ds
unfolding fewest
least_fewest base limit most [] one le h least short = absurd least
least_fewest base limit most (d ∷ []) one le h least short =
    let number : 0 * base + d ≡ d = omega arith in
    let k : most ≡ most + 0 = omega arith in
    ap (λ (n : ℕ). fewest base limit most n) number ∙ ap (λ (m : ℕ). fewest base limit m d) k ∙ fewest_enough base limit most 0 d (omega arith) (omega (arith, no_places base limit))
least_fewest base limit most (d ∷ e ∷ ds) one le h least short =
    let number : 0 * base + d ≡ d = omega arith in
    let n : ℕ = d * base + e in
    let k : most ≡ (most - suc (length ds)) + (length ds + 1) = omega arith in
    let bound : spell base d (e ∷ ds) < (d + 1) * base ^ suc (length ds) = spell_bound base d (e ∷ ds) h.1 in
    let wider = mul-le (d + 1) (base ^ suc (length ds)) limit (base ^ suc (length ds)) (omega arith) (omega arith) in
    let plus : length ds + 1 ≡ suc (length ds) = omega arith in
    let below : spell base n ds < limit * base ^ (length ds + 1) = rw plus (omega (arith, bound, wider)) in
    ap (λ (m : ℕ). fewest base limit most (spell base (m * base + e) ds)) number
    ∙ ap (λ (m : ℕ). fewest base limit m (spell base n ds)) k
    ∙ fewest_enough base limit (most - suc (length ds)) (length ds + 1) (spell base n ds) (omega arith) below
    ∙ fewest_behind base limit 1 n ds le (omega arith) h.1.1
    ∙ ap (λ (x : List ℕ). x ++ ds) (fewest_next base limit 0 d e h.1.0 least.1)

pub are_digits : (base : ℕ) (os : List ℕ) → ((i : ℕ) → i < length os → get_or os i 0 < base) → AreDigits base os
are_digits base [] h = tt
are_digits base (o ∷ os) h = (h 0 (omega arith), are_digits base os (λ i lt. h (suc i) (omega arith)))
