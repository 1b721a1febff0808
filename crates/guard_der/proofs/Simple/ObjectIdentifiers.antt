-- Contents octets of an OBJECT IDENTIFIER, read octet by octet within 128 bits.
use Rattle.std.proofs.Common.{◌≡◌, ℕ, ◌+◌, ◌-◌, ◌*◌, ◌%◌, ◌^◌, ◌<◌, ◌≤◌, Bool, true, false, cond, ltb, eqb, List, [], ◌∷◌, ◌++◌, length, Option, Some, None, refl, sym, ap, ◌∙◌, append_assoc, arith}
use Rattle.std.specs.Prelude.{◌&&◌, not}
use Rattle.std.proofs.lemmas.Bool.{cond-true, cond-false, le-ltb, lt-ltb, and_parts, and_from, and_left, true≢false}
use Rattle.std.proofs.lemmas.List.{append-nil}
use Rattle.guard_der.specs.declared.breach.Code.{Code}
use Rattle.guard_der.specs.declared.breach.Code.TheVariants as code
use Rattle.guard_der.specs.Fits.{all_below}
use Rattle.guard_der.specs.Simple.{are_subidentifiers, subidentifiers, arcs_of, object_id_fault}

-- ---- subidentifiers

-- a number with no room for seven bits more is too large, since its subidentifier ends
abbrev TooLarge : List ℕ → Type 0
TooLarge os = (n : ℕ) (starts : Bool) → are_subidentifiers starts os ≡ true → 0 < length os → 2 ^ 121 ≤ n → all_below (2 ^ 128) (subidentifiers n os) ≡ false

some_left : (os : List ℕ) → are_subidentifiers false os ≡ true → 0 < length os
some_left [] e = absurd cc
some_left (o ∷ os) e = omega arith

larger : (n o : ℕ) (os : List ℕ) (last : Bool) → TooLarge os → 2 ^ 121 ≤ n → are_subidentifiers last os ≡ true
    → all_below (2 ^ 128) (cond last ((n * 128 + o) ∷ subidentifiers 0 os) (subidentifiers (n * 128 + (o - 128)) os)) ≡ false
larger n o os true ih large form = and_left (ltb (n * 128 + o) (2 ^ 128)) (all_below (2 ^ 128) (subidentifiers 0 os)) (le-ltb (n * 128 + o) (2 ^ 128) (omega (arith, large)))
larger n o os false ih large form = ih (n * 128 + (o - 128)) false form (some_left os form) (omega (arith, large))

too_large : (os : List ℕ) → TooLarge os
too_large [] n starts form some large = absurd (omega (arith, some))
too_large (o ∷ os) n starts form some large = larger n o os (ltb o 128) (too_large os) large (and_parts (not (starts && eqb o 128)) (are_subidentifiers (ltb o 128) os) form).1

all_of_both : (limit : ℕ) (xs ys : List ℕ) → all_below limit xs ≡ true → all_below limit ys ≡ true → all_below limit (xs ++ ys) ≡ true
all_of_both limit [] ys e f = f
all_of_both limit (x ∷ xs) ys e f = let p = and_parts (ltb x limit) (all_below limit xs) e in and_from (ltb x limit) (all_below limit (xs ++ ys)) p.0 (all_of_both limit xs ys p.1 f)

not_all_behind : (limit : ℕ) (xs ys : List ℕ) → all_below limit xs ≡ true → all_below limit ys ≡ false → all_below limit (xs ++ ys) ≡ false
not_all_behind limit [] ys e f = f
not_all_behind limit (x ∷ xs) ys e f = let p = and_parts (ltb x limit) (all_below limit xs) e in rw p.0 (not_all_behind limit xs ys p.1 f)

-- ---- octet by octet

-- What was read: the subidentifiers that ended, whose arcs these are, and of the next one this number.
pub record ReadSoFar (octets arcs left : List ℕ) (starts : Bool) (number : ℕ) : Type 0 where
  pub form : are_subidentifiers starts left ≡ are_subidentifiers true octets
  pub ended : List ℕ
  pub arcs_are : arcs ≡ arcs_of ended
  pub all : ended ++ subidentifiers number left ≡ subidentifiers 0 octets
  pub below : all_below (2 ^ 128) ended ≡ true

pub nothing_read : (octets : List ℕ) → ReadSoFar octets [] octets true 0
nothing_read octets = record { form = refl; ended = []; arcs_are = refl; all = refl; below = refl }

low_bits : (o : ℕ) → o < 128 → o % 128 ≡ o
low_bits o small = omega arith

high_bits : (o : ℕ) → 128 ≤ o → o < 256 → o % 128 ≡ o - 128
high_bits o large octet = omega arith

module _ (octets arcs : List ℕ) (starts : Bool) (number o : ℕ) (left : List ℕ) (octet : o < 256) (read : ReadSoFar octets arcs (o ∷ left) starts number) (fine : (starts && eqb o 128) ≡ false) where
  form_behind : (last : Bool) → ltb o 128 ≡ last → are_subidentifiers last left ≡ are_subidentifiers true octets
  form_behind last is = ap (λ (b : Bool). are_subidentifiers b left) (sym is) ∙ sym (ap (λ (b : Bool). not b && are_subidentifiers (ltb o 128) left) fine) ∙ read.form

  pub goes_on : (now : List ℕ) (next : ℕ) → 128 ≤ o → now ≡ arcs → next ≡ number * 128 + o % 128 → ReadSoFar octets now left (ltb o 128) next
  goes_on now next large arcs_are is =
      let number_is : next ≡ number * 128 + (o - 128) = rw (is, high_bits o large octet) refl in
      record {
        form = form_behind (ltb o 128) refl;
        ended = read.ended;
        arcs_are = arcs_are ∙ read.arcs_are;
        all = ap (λ (n : ℕ). read.ended ++ subidentifiers n left) number_is ∙ sym (ap (λ (ns : List ℕ). read.ended ++ ns) (cond-false (ltb o 128) _ _ (le-ltb o 128 large))) ∙ read.all;
        below = read.below;
      }

  pub ends : (now : List ℕ) (ended next : ℕ) → number < 2 ^ 121 → o < 128 → ended ≡ number * 128 + o % 128 → now ≡ arcs_of (read.ended ++ ended ∷ []) → next ≡ 0 → ReadSoFar octets now left (ltb o 128) next
  ends now ended next room small is arcs_are starts_anew =
      let number_is : ended ≡ number * 128 + o = rw (is, low_bits o small) refl in
      record {
        form = form_behind (ltb o 128) refl;
        ended = read.ended ++ ended ∷ [];
        arcs_are = arcs_are;
        all = ap (λ (n : ℕ). (read.ended ++ ended ∷ []) ++ subidentifiers n left) starts_anew ∙ append_assoc read.ended (ended ∷ []) (subidentifiers 0 left)
            ∙ ap (λ (n : ℕ). read.ended ++ n ∷ subidentifiers 0 left) number_is ∙ sym (ap (λ (ns : List ℕ). read.ended ++ ns) (cond-true (ltb o 128) _ _ (lt-ltb o 128 small))) ∙ read.all;
        below = all_of_both (2 ^ 128) read.ended (ended ∷ []) read.below (and_from (ltb ended (2 ^ 128)) true (lt-ltb ended (2 ^ 128) (omega (arith, is, room))) refl);
      }

-- ---- what is answered

abbrev code_of : Bool → Bool → Option Code
code_of form below = cond form (cond below None (Some code.ObjectIdTooLong)) (Some code.ObjectIdContents)

code_is : (octets : List ℕ) (form below : Bool) → eqb (length octets) 0 ≡ false → are_subidentifiers true octets ≡ form → all_below (2 ^ 128) (subidentifiers 0 octets) ≡ below → object_id_fault octets ≡ code_of form below
code_is octets form below some f b = rw (some, f, b) refl

pub no_octets : (octets : List ℕ) → length octets ≡ 0 → object_id_fault octets ≡ Some code.ObjectIdContents
no_octets [] e = refl
no_octets (o ∷ os) e = absurd (omega (arith, e))

padded_form : (starts padding : Bool) (left octets : List ℕ) (o : ℕ) → padding ≡ true → (not padding && are_subidentifiers (ltb o 128) left) ≡ are_subidentifiers true octets → are_subidentifiers true octets ≡ false
padded_form starts true left octets o is e = sym e
padded_form starts false left octets o is e = absurd (true≢false (sym is))

pub padded : (octets arcs left : List ℕ) (starts : Bool) (number o : ℕ) → eqb (length octets) 0 ≡ false → ReadSoFar octets arcs (o ∷ left) starts number → (starts && eqb o 128) ≡ true → object_id_fault octets ≡ Some code.ObjectIdContents
padded octets arcs left starts number o some read is = code_is octets false (all_below (2 ^ 128) (subidentifiers 0 octets)) some (padded_form starts (starts && eqb o 128) left octets o is read.form) refl

pub unfinished : (octets arcs : List ℕ) (starts : Bool) (number : ℕ) → eqb (length octets) 0 ≡ false → ReadSoFar octets arcs [] starts number → starts ≡ false → object_id_fault octets ≡ Some code.ObjectIdContents
unfinished octets arcs starts number some read is = code_is octets false (all_below (2 ^ 128) (subidentifiers 0 octets)) some (sym read.form ∙ is) refl

behind_full : (octets arcs left : List ℕ) (starts form : Bool) (number : ℕ) → 0 < length left → ReadSoFar octets arcs left starts number → 2 ^ 121 ≤ number → are_subidentifiers starts left ≡ form
    → eqb (length octets) 0 ≡ false → object_id_fault octets ≡ Some (cond form code.ObjectIdTooLong code.ObjectIdContents)
behind_full octets arcs left starts true number more read large form some =
    code_is octets true false some (sym read.form ∙ form) (ap (λ (ns : List ℕ). all_below (2 ^ 128) ns) (sym read.all) ∙ not_all_behind (2 ^ 128) read.ended (subidentifiers number left) read.below (too_large left number starts form more large))
behind_full octets arcs left starts false number more read large form some = code_is octets false (all_below (2 ^ 128) (subidentifiers 0 octets)) some (sym read.form ∙ form) refl

pub too_long : (octets arcs left : List ℕ) (starts : Bool) (number : ℕ) → 0 < length left → eqb (length octets) 0 ≡ false → ReadSoFar octets arcs left starts number → 2 ^ 121 ≤ number
    → object_id_fault octets ≡ Some (cond (are_subidentifiers starts left) code.ObjectIdTooLong code.ObjectIdContents)
too_long octets arcs left starts number more some read large = behind_full octets arcs left starts (are_subidentifiers starts left) number more read large refl some

pub all_read : (octets arcs : List ℕ) (starts : Bool) (number : ℕ) → eqb (length octets) 0 ≡ false → ReadSoFar octets arcs [] starts number → starts ≡ true → (object_id_fault octets ≡ None) × (arcs ≡ arcs_of (subidentifiers 0 octets))
all_read octets arcs starts number some read is =
    let all : read.ended ≡ subidentifiers 0 octets = sym (append-nil read.ended) ∙ read.all in
    (code_is octets true true some (sym read.form ∙ is) (ap (λ (ns : List ℕ). all_below (2 ^ 128) ns) (sym all) ∙ read.below), read.arcs_are ∙ ap arcs_of all)
