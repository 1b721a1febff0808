-- The number that digits write, as they are read one by one.
use Rattle.std.proofs.Common.{◌≡◌, ℕ, suc, ◌+◌, ◌-◌, ◌*◌, ◌<◌, ◌≤◌, List, [], ◌∷◌, length, get_or, drop, sym, ap, ◌∙◌, arith}
use Rattle.std.specs.Prelude.{fold}
use Rattle.std.proofs.Math.Seq.{drop-cons}
use Rattle.std.proofs.lemmas.List.{drop_all}
use Rattle.guard_lexer.specs.Items.{number_value}

abbrev pub with_digit : ℕ → ℕ → ℕ
with_digit value digit = value * 10 + (digit - 48)

-- more digits make no number smaller
grows : (digits : List ℕ) (n : ℕ) → n ≤ fold with_digit n digits
grows [] n = omega arith
grows (d ∷ ds) n =
    let h : with_digit n d ≤ fold with_digit (with_digit n d) ds = grows ds (with_digit n d) in omega arith

-- what is below a bound with all digits is so with one more digit
pub was_small : (ds : List ℕ) (i n total bound : ℕ) → i < length ds → fold with_digit n (drop i ds) ≡ total
    → total < bound → with_digit n (get_or ds i 0) < bound
was_small ds i n total bound lt e small =
    let d = get_or ds i 0 in
    let more : fold with_digit (with_digit n d) (drop (suc i) ds) ≡ total =
    ap (λ (xs : List ℕ). fold with_digit n xs) (sym (drop-cons ds i 0 lt)) ∙ e in
    let h : with_digit n d ≤ fold with_digit (with_digit n d) (drop (suc i) ds) =
    grows (drop (suc i) ds) (with_digit n d) in
    omega arith

-- once all digits are read, the value is the number
pub ended : (ds : List ℕ) (i n bound : ℕ) → length ds ≤ i → fold with_digit n (drop i ds) ≡ number_value ds → n < bound
    → (number_value ds < bound) × (n ≡ number_value ds)
ended ds i n bound le e small =
    let done : n ≡ number_value ds = ap (λ (xs : List ℕ). fold with_digit n xs) (sym (drop_all i ds le)) ∙ e in
    (omega arith, done)
