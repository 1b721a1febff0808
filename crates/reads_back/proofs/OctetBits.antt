-- Octets and their bits.
use Rattle.std.proofs.Common.{◌≡◌, ℕ, zero, suc, ◌+◌, ◌-◌, ◌*◌, ◌/◌, ◌%◌, ◌^◌, ◌≤◌, List, [], ◌∷◌, ◌++◌, flat_map, length, take, refl, ap, ◌∙◌, arith}
use Rattle.guard_der.specs.Fits.{last_octet}
use Rattle.guard_values.specs.Strings.{packed}
use Rattle.guard_report.specs.Strings.{eight_bits, without_last}

-- ---- one octet

halves : (o q1 q2 q3 q4 q5 q6 b7 b6 b5 b4 b3 b2 b1 b0 : ℕ) → o ≡ 2 * q1 + b0 → q1 ≡ 2 * q2 + b1 → q2 ≡ 2 * q3 + b2 → q3 ≡ 2 * q4 + b3 → q4 ≡ 2 * q5 + b4 → q5 ≡ 2 * q6 + b5 → q6 ≡ 2 * b7 + b6
    → b7 * 128 + (b6 * 64 + (b5 * 32 + (b4 * 16 + (b3 * 8 + (b2 * 4 + (b1 * 2 + (b0 * 1 + 0))))))) ≡ o
halves o q1 q2 q3 q4 q5 q6 b7 b6 b5 b4 b3 b2 b1 b0 e0 e1 e2 e3 e4 e5 e6 = omega arith

half0 : (o : ℕ) → o ≡ 2 * (o / 2) + o % 2
half0 o = omega arith

half1 : (o : ℕ) → o / 2 ≡ 2 * (o / 4) + o / 2 % 2
half1 o = omega arith

half2 : (o : ℕ) → o / 4 ≡ 2 * (o / 8) + o / 4 % 2
half2 o = omega arith

half3 : (o : ℕ) → o / 8 ≡ 2 * (o / 16) + o / 8 % 2
half3 o = omega arith

half4 : (o : ℕ) → o / 16 ≡ 2 * (o / 32) + o / 16 % 2
half4 o = omega arith

half5 : (o : ℕ) → o / 32 ≡ 2 * (o / 64) + o / 32 % 2
half5 o = omega arith

half6 : (o : ℕ) → o / 64 ≡ 2 * (o / 128) + o / 64 % 2
half6 o = omega arith

pub octet_sum : (o : ℕ) → o / 128 * 128 + (o / 64 % 2 * 64 + (o / 32 % 2 * 32 + (o / 16 % 2 * 16 + (o / 8 % 2 * 8 + (o / 4 % 2 * 4 + (o / 2 % 2 * 2 + (o % 2 * 1 + 0))))))) ≡ o
octet_sum o = halves o (o / 2) (o / 4) (o / 8) (o / 16) (o / 32) (o / 64) (o / 128) (o / 64 % 2) (o / 32 % 2) (o / 16 % 2) (o / 8 % 2) (o / 4 % 2) (o / 2 % 2) (o % 2) (half0 o) (half1 o) (half2 o) (half3 o) (half4 o) (half5 o) (half6 o)

-- with so many zero bits at the end

short1 : (o b7 b6 b5 b4 b3 b2 b1 b0 : ℕ) → b7 * 128 + (b6 * 64 + (b5 * 32 + (b4 * 16 + (b3 * 8 + (b2 * 4 + (b1 * 2 + (b0 * 1 + 0))))))) ≡ o → b0 ≡ 0 → b7 * 128 + (b6 * 64 + (b5 * 32 + (b4 * 16 + (b3 * 8 + (b2 * 4 + (b1 * 2 + 0)))))) ≡ o
short1 o b7 b6 b5 b4 b3 b2 b1 b0 e z0 = omega arith

short2 : (o b7 b6 b5 b4 b3 b2 b1 b0 : ℕ) → b7 * 128 + (b6 * 64 + (b5 * 32 + (b4 * 16 + (b3 * 8 + (b2 * 4 + (b1 * 2 + (b0 * 1 + 0))))))) ≡ o → b1 ≡ 0 → b0 ≡ 0 → b7 * 128 + (b6 * 64 + (b5 * 32 + (b4 * 16 + (b3 * 8 + (b2 * 4 + 0))))) ≡ o
short2 o b7 b6 b5 b4 b3 b2 b1 b0 e z1 z0 = omega arith

short3 : (o b7 b6 b5 b4 b3 b2 b1 b0 : ℕ) → b7 * 128 + (b6 * 64 + (b5 * 32 + (b4 * 16 + (b3 * 8 + (b2 * 4 + (b1 * 2 + (b0 * 1 + 0))))))) ≡ o → b2 ≡ 0 → b1 ≡ 0 → b0 ≡ 0 → b7 * 128 + (b6 * 64 + (b5 * 32 + (b4 * 16 + (b3 * 8 + 0)))) ≡ o
short3 o b7 b6 b5 b4 b3 b2 b1 b0 e z2 z1 z0 = omega arith

short4 : (o b7 b6 b5 b4 b3 b2 b1 b0 : ℕ) → b7 * 128 + (b6 * 64 + (b5 * 32 + (b4 * 16 + (b3 * 8 + (b2 * 4 + (b1 * 2 + (b0 * 1 + 0))))))) ≡ o → b3 ≡ 0 → b2 ≡ 0 → b1 ≡ 0 → b0 ≡ 0 → b7 * 128 + (b6 * 64 + (b5 * 32 + (b4 * 16 + 0))) ≡ o
short4 o b7 b6 b5 b4 b3 b2 b1 b0 e z3 z2 z1 z0 = omega arith

short5 : (o b7 b6 b5 b4 b3 b2 b1 b0 : ℕ) → b7 * 128 + (b6 * 64 + (b5 * 32 + (b4 * 16 + (b3 * 8 + (b2 * 4 + (b1 * 2 + (b0 * 1 + 0))))))) ≡ o → b4 ≡ 0 → b3 ≡ 0 → b2 ≡ 0 → b1 ≡ 0 → b0 ≡ 0 → b7 * 128 + (b6 * 64 + (b5 * 32 + 0)) ≡ o
short5 o b7 b6 b5 b4 b3 b2 b1 b0 e z4 z3 z2 z1 z0 = omega arith

short6 : (o b7 b6 b5 b4 b3 b2 b1 b0 : ℕ) → b7 * 128 + (b6 * 64 + (b5 * 32 + (b4 * 16 + (b3 * 8 + (b2 * 4 + (b1 * 2 + (b0 * 1 + 0))))))) ≡ o → b5 ≡ 0 → b4 ≡ 0 → b3 ≡ 0 → b2 ≡ 0 → b1 ≡ 0 → b0 ≡ 0 → b7 * 128 + (b6 * 64 + 0) ≡ o
short6 o b7 b6 b5 b4 b3 b2 b1 b0 e z5 z4 z3 z2 z1 z0 = omega arith

short7 : (o b7 b6 b5 b4 b3 b2 b1 b0 : ℕ) → b7 * 128 + (b6 * 64 + (b5 * 32 + (b4 * 16 + (b3 * 8 + (b2 * 4 + (b1 * 2 + (b0 * 1 + 0))))))) ≡ o → b6 ≡ 0 → b5 ≡ 0 → b4 ≡ 0 → b3 ≡ 0 → b2 ≡ 0 → b1 ≡ 0 → b0 ≡ 0 → b7 * 128 + 0 ≡ o
short7 o b7 b6 b5 b4 b3 b2 b1 b0 e z6 z5 z4 z3 z2 z1 z0 = omega arith

pub one_short : (unused o n : ℕ) → unused ≤ 7 → o % 2 ^ unused ≡ 0 → packed 2 8 (suc n) (take (8 - unused) (eight_bits o)) ≡ o ∷ []
one_short zero o n h e = ap (λ (x : ℕ). x ∷ []) (octet_sum o)
one_short (suc zero) o n h e = ap (λ (x : ℕ). x ∷ []) (short1 o (o / 128) (o / 64 % 2) (o / 32 % 2) (o / 16 % 2) (o / 8 % 2) (o / 4 % 2) (o / 2 % 2) (o % 2) (octet_sum o) (omega (arith, e)))
one_short (suc (suc zero)) o n h e = ap (λ (x : ℕ). x ∷ []) (short2 o (o / 128) (o / 64 % 2) (o / 32 % 2) (o / 16 % 2) (o / 8 % 2) (o / 4 % 2) (o / 2 % 2) (o % 2) (octet_sum o) (omega (arith, e)) (omega (arith, e)))
one_short (suc (suc (suc zero))) o n h e = ap (λ (x : ℕ). x ∷ []) (short3 o (o / 128) (o / 64 % 2) (o / 32 % 2) (o / 16 % 2) (o / 8 % 2) (o / 4 % 2) (o / 2 % 2) (o % 2) (octet_sum o) (omega (arith, e)) (omega (arith, e)) (omega (arith, e)))
one_short (suc (suc (suc (suc zero)))) o n h e = ap (λ (x : ℕ). x ∷ []) (short4 o (o / 128) (o / 64 % 2) (o / 32 % 2) (o / 16 % 2) (o / 8 % 2) (o / 4 % 2) (o / 2 % 2) (o % 2) (octet_sum o) (omega (arith, e)) (omega (arith, e)) (omega (arith, e)) (omega (arith, e)))
one_short (suc (suc (suc (suc (suc zero))))) o n h e = ap (λ (x : ℕ). x ∷ []) (short5 o (o / 128) (o / 64 % 2) (o / 32 % 2) (o / 16 % 2) (o / 8 % 2) (o / 4 % 2) (o / 2 % 2) (o % 2) (octet_sum o) (omega (arith, e)) (omega (arith, e)) (omega (arith, e)) (omega (arith, e)) (omega (arith, e)))
one_short (suc (suc (suc (suc (suc (suc zero)))))) o n h e = ap (λ (x : ℕ). x ∷ []) (short6 o (o / 128) (o / 64 % 2) (o / 32 % 2) (o / 16 % 2) (o / 8 % 2) (o / 4 % 2) (o / 2 % 2) (o % 2) (octet_sum o) (omega (arith, e)) (omega (arith, e)) (omega (arith, e)) (omega (arith, e)) (omega (arith, e)) (omega (arith, e)))
one_short (suc (suc (suc (suc (suc (suc (suc zero))))))) o n h e = ap (λ (x : ℕ). x ∷ []) (short7 o (o / 128) (o / 64 % 2) (o / 32 % 2) (o / 16 % 2) (o / 8 % 2) (o / 4 % 2) (o / 2 % 2) (o % 2) (octet_sum o) (omega (arith, e)) (omega (arith, e)) (omega (arith, e)) (omega (arith, e)) (omega (arith, e)) (omega (arith, e)) (omega (arith, e)))
one_short (suc (suc (suc (suc (suc (suc (suc (suc u)))))))) o n h e = absurd (omega arith)

-- ---- several octets

pub count_bits : (octets : List ℕ) → length (flat_map eight_bits octets) ≡ 8 * length octets
count_bits [] = refl
count_bits (o ∷ os) = let more : length (flat_map eight_bits os) ≡ 8 * length os = count_bits os in omega (arith, more)

first_kept : (o unused : ℕ) (bits : List ℕ) → unused ≤ length bits → without_last unused (eight_bits o ++ bits) ≡ eight_bits o ++ without_last unused bits
first_kept o unused bits h =
    let k : ℕ = length bits - unused in
    let e : length (eight_bits o ++ bits) - unused ≡ suc (suc (suc (suc (suc (suc (suc (suc k))))))) = omega (arith, h) in
    ap (λ (n : ℕ). take n (eight_bits o ++ bits)) e

pub without_more : (o p unused : ℕ) (os : List ℕ) → unused ≤ 7
    → without_last unused (flat_map eight_bits (o ∷ p ∷ os)) ≡ eight_bits o ++ without_last unused (flat_map eight_bits (p ∷ os))
without_more o p unused os h = first_kept o unused (flat_map eight_bits (p ∷ os)) (omega (arith, h))

pub octets_again : (octets : List ℕ) (unused n : ℕ) → unused ≤ 7 → 1 ≤ length octets → last_octet octets % 2 ^ unused ≡ 0 → length octets ≤ n
    → packed 2 8 n (without_last unused (flat_map eight_bits octets)) ≡ octets
octets_again [] unused n h some e le = absurd (omega arith)
octets_again (o ∷ os) unused zero h some e le = absurd (omega arith)
octets_again (o ∷ []) unused (suc n) h some e le = one_short unused o n h e
octets_again (o ∷ p ∷ os) unused (suc n) h some e le =
    let others : packed 2 8 n (without_last unused (flat_map eight_bits (p ∷ os))) ≡ p ∷ os = octets_again (p ∷ os) unused n h (omega arith) e (omega arith) in
    ap (packed 2 8 (suc n)) (without_more o p unused os h) ∙ (λ i. octet_sum o i ∷ others i)
