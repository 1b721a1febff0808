-- Fewer contents octets have fewer octets before them, so that they don't get too long where more wouldn't.
use Rattle.std.proofs.Common.{◌≡◌, ℕ, zero, suc, ◌+◌, ◌/◌, ◌%◌, ◌≤◌, Bool, true, false, cond, ltb, List, [], ◌∷◌, ◌++◌, length, Option, Some, None, refl, subst, sym, IsTrue, arith}
use Rattle.std.specs.Prelude.{nat_le, is_some}
use Rattle.std.proofs.lemmas.Bool.{ltb-true, ltb-false, leb-true, leb-false}
use Rattle.std.proofs.lemmas.List.{length-append}
use Rattle.std.proofs.lemmas.Nat.{le-div}
use Rattle.std.proofs.Math.Nat.{div-mul-le_self}
use Rattle.guard_model.specs.declared.tag.Tag.{Tag}
use Rattle.guard_der.specs.Der.{◌>>=◌}
use Rattle.guard_der.specs.Element.{length_octets}
use Rattle.guard_der.specs.Encoding.{longest_encoding, short, header_length, length_in}
use Rattle.guard_der.specs.Octets.{fewest, unsigned_octets}
use Rattle.guard_der.proofs.Functions.Lengths.{short_low, short_high}

one_or_more : (b : Bool) (x y : ℕ) (ds : List ℕ) → 1 ≤ length (cond b (x ∷ []) (ds ++ y ∷ []))
one_or_more true x y ds = omega arith
one_or_more false x y ds = omega (arith, length-append ds (y ∷ []))

less_or_equal : (a b : Bool) (m n x y : ℕ) (ds es : List ℕ) → m ≤ n → ltb m 256 ≡ a → ltb n 256 ≡ b → length ds ≤ length es
    → length (cond a (m ∷ []) (ds ++ x ∷ [])) ≤ length (cond b (n ∷ []) (es ++ y ∷ []))
less_or_equal true b m n x y ds es h e f l = one_or_more b n y es
less_or_equal false true m n x y ds es h e f l = absurd (omega (arith, h, ltb-false m 256 e, ltb-true n 256 f))
less_or_equal false false m n x y ds es h e f l = omega (arith, length-append ds (x ∷ []), length-append es (y ∷ []), l)

digits_more : (more m n : ℕ) → m ≤ n → length (fewest 256 256 more m) ≤ length (fewest 256 256 more n)
unfolding fewest
digits_more zero m n h = omega arith
digits_more (suc more) m n h =
    less_or_equal (ltb m 256) (ltb n 256) m n (m % 256) (n % 256) (fewest 256 256 more (m / 256)) (fewest 256 256 more (n / 256)) h refl refl
    (digits_more more (m / 256) (n / 256) (le-div (m / 256) n 256 (omega arith) (omega (arith, div-mul-le_self m 256, h))))

length_by : (a b : Bool) (m n : ℕ) → m ≤ n → ltb m 128 ≡ a → ltb n 128 ≡ b
    → length (cond a (m ∷ []) ((128 + length (unsigned_octets m)) ∷ unsigned_octets m))
    ≤ length (cond b (n ∷ []) ((128 + length (unsigned_octets n)) ∷ unsigned_octets n))
unfolding unsigned_octets
length_by true true m n h e f = omega arith
length_by true false m n h e f = omega arith
length_by false true m n h e f = absurd (omega (arith, h, ltb-false m 128 e, ltb-true n 128 f))
length_by false false m n h e f = omega (arith, digits_more 15 m n h)

header_more : (t : Tag) (m n : ℕ) → m ≤ n → header_length t m ≤ header_length t n
unfolding length_octets
header_more t m n h = omega (arith, length_by (ltb m 128) (ltb n 128) m n h refl refl)

-- there is a first number where there is a second one, and it isn't greater
abbrev pub AtMost : Option ℕ → Option ℕ → Type 0
AtMost x None = Unit {0}
AtMost None (Some n) = ⊥
AtMost (Some m) (Some n) = m ≤ n

short_by : (b : Bool) (m n : ℕ) → m ≤ n → nat_le n longest_encoding ≡ b → AtMost (short m) (short n)
short_by true m n h e =
    let low = leb-true n longest_encoding e in
    subst (λ (x : Option ℕ). AtMost x (short n)) (sym (short_low m (omega (arith, h, low))))
    (subst (λ (x : Option ℕ). AtMost (Some m) x) (sym (short_low n low)) h)
short_by false m n h e =
    subst (λ (x : Option ℕ). AtMost (short m) x) (sym (short_high n (leb-false n longest_encoding e))) tt

pub short_at_most : (m n : ℕ) → m ≤ n → AtMost (short m) (short n)
short_at_most m n h = short_by (nat_le n longest_encoding) m n h refl

one_tag : (t : Tag) (x y : Option ℕ) → AtMost x y
    → AtMost (x >>= λ k. short (k + header_length t k)) (y >>= λ k. short (k + header_length t k))
one_tag t x None h = tt
one_tag t None (Some n) h = absurd h
one_tag t (Some m) (Some n) h =
    short_at_most (m + header_length t m) (n + header_length t n) (omega (arith, h, header_more t m n h))

pub in_tags_at_most : (ts : List Tag) (x y : Option ℕ) → AtMost x y → AtMost (length_in ts x) (length_in ts y)
in_tags_at_most [] x y h = h
in_tags_at_most (t ∷ ts) x y h = one_tag t (length_in ts x) (length_in ts y) (in_tags_at_most ts x y h)

pub there_too : (x y : Option ℕ) → AtMost x y → IsTrue (is_some y) → IsTrue (is_some x)
there_too x None h there = absurd cc
there_too None (Some n) h there = absurd h
there_too (Some m) (Some n) h there = refl
