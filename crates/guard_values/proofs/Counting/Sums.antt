-- Numbers of octets, and their sums within the limit.
use Rattle.std.proofs.Common.{◌≡◌, ℕ, ◌+◌, ◌≤◌, Bool, true, false, cond, List, length, Option, Some, None, refl, sym, ap, ◌∙◌, arith}
use Rattle.std.specs.Prelude.{nat_le}
use Rattle.std.proofs.lemmas.Bool.{leb-true, leb-false}
use Rattle.guard_der.specs.Der.{◌>>=◌}
use Rattle.guard_der.specs.Encoding.{longest_encoding, short, short_length}
use Rattle.guard_der.proofs.Functions.Lengths.{short_low, short_high}
use Rattle.guard_values.specs.inside.Lengths.{short_sum, with_part}

abbrev pub size : Option (List ℕ) → Option ℕ
size None = None
size (Some os) = Some (length os)

pub short_size : (o : Option (List ℕ)) → short_length o ≡ (size o >>= short)
short_size None = refl
short_size (Some os) = refl

-- ---- without a limit

abbrev pub total : Option ℕ → Option ℕ → Option ℕ
total a b = a >>= λ m. b >>= λ n. Some (m + n)

abbrev nothing : Option ℕ
nothing = None

nothing_after : (a : Option ℕ) → (a >>= λ m. nothing) ≡ nothing
nothing_after None = refl
nothing_after (Some m) = refl

pub total_swap : (a b c : Option ℕ) → total a (total b c) ≡ total b (total a c)
total_swap None b c = sym (nothing_after b)
total_swap (Some m) None c = refl
total_swap (Some m) (Some n) None = refl
total_swap (Some m) (Some n) (Some k) = ap (λ (i : ℕ). Some i) (omega arith)

pub total_regroup : (a b c : Option ℕ) → total a (total b c) ≡ total (total a b) c
total_regroup None b c = refl
total_regroup (Some m) None c = refl
total_regroup (Some m) (Some n) None = refl
total_regroup (Some m) (Some n) (Some k) = ap (λ (i : ℕ). Some i) (omega arith)

pub total_zero : (a : Option ℕ) → total a (Some 0) ≡ total (Some 0) a
total_zero None = refl
total_zero (Some m) = ap (λ (i : ℕ). Some i) (omega arith)

pub total_some : (a b : Option ℕ) (k : ℕ) → total a b ≡ Some k → (m : ℕ) × (n : ℕ) × (a ≡ Some m) × (b ≡ Some n) × (m + n ≡ k)
total_some None b k e = absurd cc
total_some (Some m) None k e = absurd cc
total_some (Some m) (Some n) k e = (m, n, refl, refl, cc)

-- of components with one more, which may be left out
abbrev pub one_more : Bool → Option ℕ → Option ℕ → Option ℕ
one_more left_out octets so_far = cond left_out so_far (total octets so_far)

pub more_swap : (left_out other : Bool) (a b so_far : Option ℕ) → one_more left_out a (one_more other b so_far) ≡ one_more other b (one_more left_out a so_far)
more_swap true other a b so_far = refl
more_swap false true a b so_far = refl
more_swap false false a b so_far = total_swap a b so_far

-- ---- within the limit

sum_by : (m n : ℕ) (low other : Bool) → nat_le m longest_encoding ≡ low → nat_le n longest_encoding ≡ other → short_sum (short m) (short n) ≡ short (m + n)
sum_by m n true true e f =
    ap (λ (x : Option ℕ). short_sum x (short n)) (short_low m (leb-true m longest_encoding e)) ∙ ap (short_sum (Some m)) (short_low n (leb-true n longest_encoding f))
sum_by m n true false e f =
    let high = leb-false n longest_encoding f in
    ap (λ (x : Option ℕ). short_sum x (short n)) (short_low m (leb-true m longest_encoding e)) ∙ ap (short_sum (Some m)) (short_high n high) ∙ sym (short_high (m + n) (omega (arith, high)))
sum_by m n false other e f =
    let high = leb-false m longest_encoding e in
    ap (λ (x : Option ℕ). short_sum x (short n)) (short_high m high) ∙ sym (short_high (m + n) (omega (arith, high)))

none_sum : (m : ℕ) → short_sum (short m) None ≡ None
none_sum m = nothing_after (short m)

pub sum_short : (a b : Option ℕ) → short_sum (a >>= short) (b >>= short) ≡ (total a b >>= short)
sum_short None b = refl
sum_short (Some m) None = none_sum m
sum_short (Some m) (Some n) = sum_by m n (nat_le m longest_encoding) (nat_le n longest_encoding) refl refl

pub more_short : (left_out : Bool) (octets so_far : Option ℕ) → (one_more left_out octets so_far >>= short) ≡ with_part left_out (so_far >>= short) (octets >>= short)
more_short true octets so_far = refl
more_short false octets so_far = sym (sum_short octets so_far)
