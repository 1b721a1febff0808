-- An element's contents and what follows it are within its octets.
use Rattle.std.proofs.Common.{◌≡◌, ℕ, ◌-◌, ◌<◌, ◌≤◌, false, ltb, eqb, List, [], ◌∷◌, length, take, drop, Option, Some, None, Result, Ok, Err, cond, refl, ap, arith, inl, inr, length-drop, length-take}
use Rattle.std.proofs.lemmas.Bool.{ltb-false}
use Rattle.std.proofs.lemmas.Option.{same_Some}
use Rattle.guard_model.proofs.Results.{same_Ok}
use Rattle.guard_model.proofs.Tests.{chosen}
use Rattle.guard_der.specs.declared.breach.Code.{Code}
use Rattle.guard_der.specs.declared.breach.Code.TheVariants as code
use Rattle.guard_der.specs.Head.{length_at, long_length}
use Rattle.guard_reader.specs.Octets.{◌>>=◌, cut_at, split}
use Rattle.guard_reader.specs.Fronts.{after_one}
use Rattle.guard_reader.proofs.Lengths.{long_ok}

-- ---- steps that may refuse

pub bind_same : {A B : Type 0} (r : Option A) (f g : A → Option B) → ((x : A) → r ≡ Some x → f x ≡ g x) → (r >>= f) ≡ (r >>= g)
bind_same None f g h = refl
bind_same (Some x) f g h = h x refl

pub bind_some : {A B : Type 0} (r : Option A) (f : A → Option B) (x : A) → r ≡ Some x → (r >>= f) ≡ f x
bind_some r f x e = ap (λ r. r >>= f) e

pub bind_none : {A B : Type 0} (r : Option A) (f : A → Option B) → r ≡ None → (r >>= f) ≡ None
bind_none r f e = ap (λ r. r >>= f) e

-- ---- an element leaves fewer octets

pub after_length : (os : List ℕ) (l : ℕ × List ℕ) → length_at os ≡ Ok l → length l.1 ≤ length os
unfolding length_at
after_length [] l e = absurd cc
after_length (o ∷ os) l e =
    let pair : ℕ × List ℕ = (o, os) in
    elim (chosen (ltb o 128) (Ok pair) (cond (eqb o 128) (Err code.IndefiniteLength) (cond (ltb 132 o) (Err code.LengthTooLarge) (long_length (o - 128) os))) (Ok l) e) [
      | inl low ↦ let is : pair ≡ l = same_Ok {F = Code} pair l low.1 in let same : os ≡ l.1 = ap (λ (p : ℕ × List ℕ). p.1) is in omega (arith, ap length same)
      | inr high ↦
          let long = long_ok o os l (ltb-false o 128 high.0) e in
          omega (arith, ap length long.rest, length-drop (o - 128) os)
    ]

cut_shorter : (r : Result (ℕ × List ℕ) Code) (n : ℕ) (x : List ℕ × List ℕ) → ((l : ℕ × List ℕ) → r ≡ Ok l → length l.1 ≤ n) → cut_at r ≡ Some x → length x.1 ≤ n
cut_shorter (Err c) n x bound e = absurd cc
cut_shorter (Ok l) n x bound e =
    let parts : List ℕ × List ℕ = (take l.0 l.1, drop l.0 l.1) in
    elim (chosen (ltb (length l.1) l.0) None (Some parts) (Some x) e) [
      | inl short ↦ absurd cc
      | inr room ↦
          let is : parts ≡ x = same_Some parts x room.1 in
          let same : drop l.0 l.1 ≡ x.1 = ap (λ (p : List ℕ × List ℕ). p.1) is in
          omega (arith, ap length same, length-drop l.0 l.1, bound l refl)
    ]

pub split_shorter : (os : List ℕ) (x : List ℕ × List ℕ) → split os ≡ Some x → length x.1 ≤ length os
unfolding split
split_shorter os x e = cut_shorter (length_at os) (length os) x (λ l e. after_length os l e) e

-- ---- contents and what follows are within the octets

cut_contents : (r : Result (ℕ × List ℕ) Code) (n : ℕ) (x : List ℕ × List ℕ) → ((l : ℕ × List ℕ) → r ≡ Ok l → length l.1 ≤ n) → cut_at r ≡ Some x → length x.0 ≤ n
cut_contents (Err c) n x bound e = absurd cc
cut_contents (Ok l) n x bound e =
    let parts : List ℕ × List ℕ = (take l.0 l.1, drop l.0 l.1) in
    elim (chosen (ltb (length l.1) l.0) None (Some parts) (Some x) e) [
      | inl short ↦ absurd cc
      | inr room ↦
          let is : parts ≡ x = same_Some parts x room.1 in
          let same : take l.0 l.1 ≡ x.0 = ap (λ (p : List ℕ × List ℕ). p.0) is in
          omega (arith, ap length same, length-take l.0 l.1, bound l refl)
    ]

split_contents : (os : List ℕ) (x : List ℕ × List ℕ) → split os ≡ Some x → length x.0 ≤ length os
unfolding split
split_contents os x e = cut_contents (length_at os) (length os) x (λ l e. after_length os l e) e

pub within : (os contents next : List ℕ) → eqb (length os) 0 ≡ false → split (after_one os) ≡ Some (contents, next) → (length contents < length os) × (length next < length os)
within [] contents next some e = absurd cc
within (o ∷ os) contents next some e = (omega (arith, split_contents os (contents, next) e), omega (arith, split_shorter os (contents, next) e))
