-- Lengths in the long form.
use Rattle.std.proofs.Common.{◌≡◌, ℕ, ◌-◌, ◌<◌, ◌≤◌, Bool, true, false, ltb, eqb, List, ◌∷◌, length, take, drop, None, Result, Ok, Err, cond, refl, arith, inl, inr}
use Rattle.std.specs.Prelude.{◌||◌, ◌⊎◌}
use Rattle.std.proofs.lemmas.Bool.{ltb-true, ltb-false}
use Rattle.guard_model.proofs.Results.{guard_ok, same_Ok}
use Rattle.guard_model.proofs.Tests.{chosen}
use Rattle.guard_der.specs.declared.breach.Code.{Code}
use Rattle.guard_der.specs.declared.breach.Code.TheVariants as code
use Rattle.guard_der.specs.Octets.{big_endian}
use Rattle.guard_der.specs.Head.{length_at, long_length}
use Rattle.guard_reader.specs.Octets.{cut, cut_at, size_at}

neither : (a b : Bool) → (a || b) ≡ false → (a ≡ false) × (b ≡ false)
neither true b e = absurd cc
neither false b e = (refl, e)

pub record IsLong (first : ℕ) (after : List ℕ) (l : ℕ × List ℕ) : Type 0 where
  pub size : 128 ≤ l.0
  pub rest : l.1 ≡ drop (first - 128) after
  pub room : first - 128 ≤ length after

abbrev pair : ℕ → List ℕ → ℕ × List ℕ
pair n os = (n, os)

after_count : (k : ℕ) (os : List ℕ) (l : ℕ × List ℕ) → long_length k os ≡ Ok l → (128 ≤ l.0) × (l.1 ≡ drop k os) × (k ≤ length os)
unfolding long_length
after_count k os l e =
    let a = guard_ok (ltb (length os) k) code.Truncated (cond (ltb (big_endian (take k os)) 128 || eqb (big_endian (take 1 os)) 0) (Err code.NonMinimalLength) (Ok (pair (big_endian (take k os)) (drop k os)))) l e in
    let b = guard_ok (ltb (big_endian (take k os)) 128 || eqb (big_endian (take 1 os)) 0) code.NonMinimalLength (Ok (pair (big_endian (take k os)) (drop k os))) l a.1 in
    let is : pair (big_endian (take k os)) (drop k os) ≡ l = same_Ok {F = Code} (pair (big_endian (take k os)) (drop k os)) l b.1 in
    let n = neither (ltb (big_endian (take k os)) 128) (eqb (big_endian (take 1 os)) 0) b.0 in
    let large : 128 ≤ big_endian (take k os) = ltb-false (big_endian (take k os)) 128 n.0 in
    (rw (← is) large, rw (← is) refl, ltb-false (length os) k a.0)

pub long_ok : (first : ℕ) (after : List ℕ) (l : ℕ × List ℕ) → 128 ≤ first → length_at (first ∷ after) ≡ Ok l → IsLong first after l
unfolding length_at
long_ok first after l high e =
    let long : Result (ℕ × List ℕ) Code = long_length (first - 128) after in
    elim (chosen (ltb first 128) (Ok (pair first after)) (cond (eqb first 128) (Err code.IndefiniteLength) (cond (ltb 132 first) (Err code.LengthTooLarge) long)) (Ok l) e) [
      | inl low ↦ absurd (omega (arith, high, ltb-true first 128 low.0))
      | inr rest ↦
          let a = guard_ok (eqb first 128) code.IndefiniteLength (cond (ltb 132 first) (Err code.LengthTooLarge) long) l rest.1 in
          let b = guard_ok (ltb 132 first) code.LengthTooLarge long l a.1 in
          let c = after_count (first - 128) after l b.1 in
          record { size = c.0; rest = c.1; room = c.2 }
    ]

pub no_long : (first : ℕ) (after : List ℕ) (size : ℕ) (r : Result (ℕ × List ℕ) Code) → 128 ≤ first → length_at (first ∷ after) ≡ r → size ≡ size_at r → (size ≡ 0) ⊎ (length after < first - 128) → cut_at r ≡ None
no_long first after size (Err c) high e is why = refl
no_long first after size (Ok l) high e is (inl none) = absurd (omega (arith, (long_ok first after l high e).size, is, none))
no_long first after size (Ok l) high e is (inr short) = absurd (omega (arith, (long_ok first after l high e).room, short))

pub some_long : (first : ℕ) (after : List ℕ) (size : ℕ) (r : Result (ℕ × List ℕ) Code) → 128 ≤ first → length_at (first ∷ after) ≡ r → size ≡ size_at r → (size ≡ 0 → ⊥) → cut size (drop (first - 128) after) ≡ cut_at r
some_long first after size (Err c) high e is some = absurd (some is)
some_long first after size (Ok l) high e is some = rw (is, ← (long_ok first after l high e).rest) refl
