-- Identifier and length octets together.
use Rattle.std.proofs.Common.{◌≡◌, ℕ, ◌+◌, ◌-◌, ◌*◌, ◌%◌, ◌^◌, ◌<◌, ◌≤◌, Bool, true, false, cond, ltb, leb, eqb, List, [], ◌∷◌, ◌++◌, length, Result, Ok, Err, refl, ap, ◌∙◌, arith, inl, inr}
use Rattle.std.proofs.lemmas.Bool.{cond-true, cond-false, lt-ltb, le-ltb, ltb-true, ltb-false, eqb-true, le-leb, lt-leb, cases_lt, agree_below_at}
use Rattle.std.proofs.lemmas.List.{length-append}
use Rattle.guard_model.specs.Answer.{◌>>=◌}
use Rattle.guard_model.specs.Tags.{class_rank}
use Rattle.guard_model.specs.declared.tag.Class.{Class}
use Rattle.guard_model.specs.declared.tag.Class.TheVariants.{Universal, Application, Context, Private}
use Rattle.guard_model.specs.declared.tag.Tag.{Tag}
use Rattle.guard_der.specs.declared.breach.Code.{Code}
use Rattle.guard_der.specs.declared.breach.Code.TheVariants.{Truncated}
use Rattle.guard_der.specs.Octets.{base_128}
use Rattle.guard_der.specs.Element.{form_bit, identifier_octets, length_octets}
use Rattle.guard_der.specs.Head.{Head, class_of, tag_number, high_number, length_at, head_of}
use Rattle.guard_der.proofs.Numbers.Digits.{AreDigits}
use Rattle.guard_der.proofs.Headers.TagsAndLengths.{high_takes, high_again, length_takes, length_again}
use Rattle.guard_model.proofs.Results.{bind_ok, guard_ok, same_Ok}
use Rattle.guard_model.proofs.Tests.{chosen}

-- the identifier with these bits 8 to 6
abbrev tag_octets : ℕ → ℕ → List ℕ
tag_octets bits m = cond (ltb m 31) ((bits + m) ∷ []) ((bits + 31) ∷ base_128 m)

octet_parts : (o : ℕ) → o < 256 → o ≡ 64 * class_rank (class_of o) + form_bit (leb 32 (o % 64)) + o % 32
octet_parts o h = eqb-true o _ (agree_below_at (λ o. eqb o (64 * class_rank (class_of o) + form_bit (leb 32 (o % 64)) + o % 32)) (λ _. true) 256 o refl h)

digits_behind : (xs ys : List ℕ) → AreDigits 256 (xs ++ ys) → AreDigits 256 ys
digits_behind [] ys h = h
digits_behind (x ∷ xs) ys h = digits_behind xs ys h.1

abbrev read : ℕ → List ℕ → Result (ℕ × List ℕ) Code
read n rest = Ok (n, rest)

tag_takes : (bits low m : ℕ) (os rest : List ℕ) → low < 32 → AreDigits 256 os → tag_number low os ≡ Ok (m, rest) → ((bits + low) ∷ os ≡ tag_octets bits m ++ rest) × (m < 2 ^ 28)
unfolding tag_number
tag_takes bits low m os rest small octets e =
    elim (chosen (ltb low 31) (read low os) (high_number os) (Ok (m, rest)) e) [
      | inl here ↦
          let pair = same_Ok (low, os) (m, rest) here.1 in
          let below : low < 31 = ltb-true low 31 here.0 in
          (rw (← ap (λ (p : ℕ × List ℕ). p.0) pair, ← ap (λ (p : ℕ × List ℕ). p.1) pair, cond-true (ltb low 31) ((bits + low) ∷ []) ((bits + 31) ∷ base_128 low) here.0) refl, rw (← ap (λ (p : ℕ × List ℕ). p.0) pair) (omega (arith, below)))
      | inr there ↦
          let all : low ≡ 31 = omega (arith, ltb-false low 31 there.0) in
          let h = high_takes os m rest octets there.1 in
          (rw (all, cond-false (ltb m 31) ((bits + m) ∷ []) ((bits + 31) ∷ base_128 m) (le-ltb m 31 h.1)) (ap (λ (x : List ℕ). (bits + 31) ∷ x) h.0), h.2)
    ]

tag_again : (bits m : ℕ) (rest : List ℕ) → m < 2 ^ 28 → (low : ℕ) × (os : List ℕ) × (tag_octets bits m ++ rest ≡ (bits + low) ∷ os) × (low < 32) × (tag_number low os ≡ Ok (m, rest))
unfolding tag_number
tag_again bits m rest small =
    elim (cases_lt m 31) [
      | inl below ↦ (m, rest, ap (λ (x : List ℕ). x ++ rest) (cond-true (ltb m 31) ((bits + m) ∷ []) ((bits + 31) ∷ base_128 m) (lt-ltb m 31 below)), omega (arith, below), cond-true (ltb m 31) _ _ (lt-ltb m 31 below))
      | inr large ↦ (31, base_128 m ++ rest, ap (λ (x : List ℕ). x ++ rest) (cond-false (ltb m 31) ((bits + m) ∷ []) ((bits + 31) ∷ base_128 m) (le-ltb m 31 large)), omega arith, high_again m rest large small)
    ]

-- the header is at the front of the octets, and its contents after it
pub record Stands (os : List ℕ) (h : Head) : Type 0 where
  pub rest : List ℕ
  pub parts : os ≡ identifier_octets h.tag h.constructed ++ (length_octets h.contents ++ rest)
  pub size : h.size ≡ length (identifier_octets h.tag h.constructed) + length (length_octets h.contents)
  pub number : h.tag.number < 2 ^ 28
  pub contents : h.contents < 2 ^ 32
  pub room : h.contents ≤ length rest

pub head_takes : (os : List ℕ) (h : Head) → AreDigits 256 os → head_of os ≡ Ok h → Stands os h
unfolding head_of identifier_octets
head_takes [] h octets e = absurd cc
head_takes (o ∷ os) h octets e =
    let made : ℕ → ℕ × List ℕ → Head = λ n l. record { tag = record { class = class_of o; number = n }; constructed = leb 32 (o % 64); size = length (o ∷ os) - length l.1; contents = l.0 } in
    let a = bind_ok (tag_number (o % 32) os) (λ t. length_at t.1 >>= λ l. cond (ltb (length l.1) l.0) (Err Truncated) (Ok (made t.0 l))) h e in
    let b = bind_ok (length_at a.0.1) (λ l. cond (ltb (length l.1) l.0) (Err Truncated) (Ok (made a.0.0 l))) h a.2 in
    let c = guard_ok (ltb (length b.0.1) b.0.0) Truncated (Ok (made a.0.0 b.0)) h b.2 in
    let is : made a.0.0 b.0 ≡ h = same_Ok (made a.0.0 b.0) h c.1 in
    let bits : ℕ = 64 * class_rank (class_of o) + form_bit (leb 32 (o % 64)) in
    let octet : o ≡ bits + o % 32 = octet_parts o octets.0 in
    let t = tag_takes bits (o % 32) a.0.0 os a.0.1 (omega arith) octets.1 a.1 in
    let whole : o ∷ os ≡ tag_octets bits a.0.0 ++ a.0.1 = ap (λ (x : ℕ). x ∷ os) octet ∙ t.0 in
    let behind = digits_behind (tag_octets bits a.0.0) a.0.1 (rw (← whole) octets) in
    let l = length_takes a.0.1 b.0.0 b.0.1 behind b.1 in
    let all : o ∷ os ≡ tag_octets bits a.0.0 ++ (length_octets b.0.0 ++ b.0.1) = whole ∙ ap (λ (x : List ℕ). tag_octets bits a.0.0 ++ x) l.0 in
    rw (← is) (record {
      rest = b.0.1;
      parts = all;
      size = omega (arith, ap length all, length-append (tag_octets bits a.0.0) (length_octets b.0.0 ++ b.0.1), length-append (length_octets b.0.0) b.0.1);
      number = t.1;
      contents = l.1;
      room = ltb-false (length b.0.1) b.0.0 c.0;
    })

class_again : (class : Class) (f low : ℕ) → f ≤ 32 → low < 32 → class_of (64 * class_rank class + f + low) ≡ class
class_again Universal f low p q = cond-true (ltb (64 * 0 + f + low) 64) _ _ (lt-ltb _ 64 (omega arith))
class_again Application f low p q = cond-false (ltb (64 * 1 + f + low) 64) _ _ (le-ltb _ 64 (omega arith)) ∙ cond-true (ltb (64 * 1 + f + low) 128) _ _ (lt-ltb _ 128 (omega arith))
class_again Context f low p q = cond-false (ltb (64 * 2 + f + low) 64) _ _ (le-ltb _ 64 (omega arith)) ∙ cond-false (ltb (64 * 2 + f + low) 128) _ _ (le-ltb _ 128 (omega arith)) ∙ cond-true (ltb (64 * 2 + f + low) 192) _ _ (lt-ltb _ 192 (omega arith))
class_again Private f low p q = cond-false (ltb (64 * 3 + f + low) 64) _ _ (le-ltb _ 64 (omega arith)) ∙ cond-false (ltb (64 * 3 + f + low) 128) _ _ (le-ltb _ 128 (omega arith)) ∙ cond-false (ltb (64 * 3 + f + low) 192) _ _ (le-ltb _ 192 (omega arith))

form_small : (c : Bool) → form_bit c ≤ 32
form_small true = omega arith
form_small false = omega arith

form_again : (r low : ℕ) (c : Bool) → low < 32 → leb 32 ((64 * r + form_bit c + low) % 64) ≡ c
form_again r low true h = le-leb 32 _ (omega arith)
form_again r low false h = lt-leb 32 _ (omega arith)

low_again : (r low : ℕ) (c : Bool) → low < 32 → (64 * r + form_bit c + low) % 32 ≡ low
low_again r low true h = omega arith
low_again r low false h = omega arith

abbrev pub head : Tag → Bool → ℕ → Head
head tag constructed n = record { tag = tag; constructed = constructed; size = length (identifier_octets tag constructed) + length (length_octets n); contents = n }

pub head_again : (tag : Tag) (constructed : Bool) (n : ℕ) (rest : List ℕ) → tag.number < 2 ^ 28 → n < 2 ^ 32 → n ≤ length rest
    → head_of (identifier_octets tag constructed ++ (length_octets n ++ rest)) ≡ Ok (head tag constructed n)
unfolding head_of identifier_octets
head_again tag constructed n rest number small room =
    let bits : ℕ = 64 * class_rank tag.class + form_bit constructed in
    let t = tag_again bits tag.number (length_octets n ++ rest) number in
    let len : length (t.1) ≡ length (tag_octets bits tag.number) + length (length_octets n) + length rest - 1 = omega (arith, ap length t.2, length-append (tag_octets bits tag.number) (length_octets n ++ rest), length-append (length_octets n) rest) in
    let size : length ((bits + t.0) ∷ t.1) - length rest ≡ length (tag_octets bits tag.number) + length (length_octets n) = omega (arith, ap length t.2, length-append (tag_octets bits tag.number) (length_octets n ++ rest), length-append (length_octets n) rest) in
    ap head_of t.2
    ∙ rw (low_again (class_rank tag.class) t.0 constructed t.3, t.4, length_again n rest small, le-ltb (length rest) n room, class_again tag.class (form_bit constructed) t.0 (form_small constructed) t.3, form_again (class_rank tag.class) t.0 constructed t.3, size) refl

-- what is left after a header is no more than there was
pub left_over : (octets os rest after : List ℕ) (low m n : ℕ) → low < 32 → AreDigits 256 os → length os + 1 ≤ length octets → tag_number low os ≡ Ok (m, rest) → length_at rest ≡ Ok (n, after) → length after ≤ length octets
left_over octets os rest after low m n small digits shorter tag len =
    let t = tag_takes 0 low m os rest small digits tag in
    let l = length_takes rest n after (digits_behind (tag_octets 0 m) rest (rw (← t.0) (omega arith, digits))) len in
    omega (arith, ap length t.0, length-append (tag_octets 0 m) rest, ap length l.0, length-append (length_octets n) after)
