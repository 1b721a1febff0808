-- What one step of a pass makes of octets.
use Rattle.std.proofs.Common.{◌≡◌, ℕ, suc, Bool, true, false, eqb, ltb, List, [], ◌∷◌, length, drop, get_or, Option, Some, None, refl, sym, ap, ◌∙◌, arith}
use Rattle.std.proofs.lemmas.Bool.{cond-false, eq-eqb, ne_eqb, eqb-true, le-ltb}
use Rattle.std.specs.Prelude.{ℤ}
use Rattle.guard_der.specs.Head.{length_at}
use Rattle.guard_tables.specs.declared.slots.Slots.{Slots}
use Rattle.guard_tables.specs.Plan.{Side, no_parts}
use Rattle.guard_tables.specs.Slots.{added}
use Rattle.guard_reader.specs.Fronts.{Front, here, elsewhere, broken, begins, after_one}
use Rattle.guard_reader.specs.Judging.{Pass, absent_part, chosen_at, fields_judged, part_at, present_part, watched, with_rest}
use Rattle.guard_reader.specs.Octets.{◌>>=◌, split}
use Rattle.guard_reader.specs.inside.Answers.{Answers, IsOne, IsTwo}

-- ---- what tests answer

pub yes : (b : Bool) (m : Slots) (r : Option Slots) → Answers b m r → b ≡ true → r ≡ Some m
yes true m r a e = a
yes false m r a e = absurd cc

pub no : (b : Bool) (m : Slots) (r : Option Slots) → Answers b m r → b ≡ false → r ≡ None
no true m r a e = absurd cc
no false m r a e = a

pub at_end : (b : Bool) (os : List ℕ) (m : Slots) → b ≡ eqb (length os) 0 → Answers b m (fields_judged no_parts os m)
unfolding fields_judged
at_end b [] m e = rw e refl
at_end b (o ∷ os) m e = rw (e, ne_eqb (suc (length os)) 0 (λ e. absurd (omega (arith, e)))) refl

-- ---- a component

pub absent_there : (side : Side) (pass : Pass) (os : List ℕ) (m : Slots) (f : Front) (r : Option Slots) → elsewhere ≡ f → absent_part side.absent m ≡ r → part_at side f pass os m ≡ with_rest os r
unfolding part_at
absent_there side pass os m f r e is = ap (λ (f : Front). part_at side f pass os m) (sym e) ∙ ap (with_rest os) is

pub not_whole : (side : Side) (pass : Pass) (os : List ℕ) (m : Slots) (f : Front) → broken ≡ f → part_at side f pass os m ≡ None
unfolding part_at
not_whole side pass os m f e = ap (λ (f : Front). part_at side f pass os m) (sym e)

pub present_there : (side : Side) (pass : Pass) (os : List ℕ) (m : Slots) (inside rest : List ℕ) (f : Front) (r : Option Slots) → here inside rest ≡ f → present_part side pass inside m ≡ r → part_at side f pass os m ≡ with_rest rest r
unfolding part_at
present_there side pass os m inside rest f r e judged = ap (λ (f : Front). part_at side f pass os m) (sym e) ∙ ap (with_rest rest) judged

pub refused : (side : Side) (pass : Pass) (os : List ℕ) (m : Slots) → watched side os m ≡ None → present_part side pass os m ≡ None
unfolding present_part
refused side pass os m e = ap (λ (r : Option Slots). r >>= λ k. pass os k) e

pub sent : (side : Side) (pass : Pass) (os : List ℕ) (m k : Slots) → watched side os m ≡ Some k → present_part side pass os m ≡ pass os k
unfolding present_part
sent side pass os m k e = ap (λ (r : Option Slots). r >>= λ k. pass os k) e

-- ---- the chosen alternative

pub chosen_more : (side : Side) (pass : Pass) (inside rest : List ℕ) (m : Slots) (later : Option Slots) → eqb (length rest) 0 ≡ false → chosen_at side (here inside rest) pass m later ≡ None
unfolding chosen_at
chosen_more side pass inside [] m later e = absurd cc
chosen_more side pass inside (o ∷ rest) m later e = refl

pub chosen_alone : (side : Side) (pass : Pass) (inside rest : List ℕ) (m : Slots) (later : Option Slots) → eqb (length rest) 0 ≡ true → chosen_at side (here inside rest) pass m later ≡ pass inside (added m side.present)
unfolding chosen_at
chosen_alone side pass inside [] m later e = refl
chosen_alone side pass inside (o ∷ rest) m later e = absurd (omega (arith, eqb-true (length (o ∷ rest)) 0 e))

pub chosen_here : (side : Side) (pass : Pass) (inside rest : List ℕ) (f : Front) (m : Slots) (later : Option Slots) → here inside rest ≡ f → chosen_at side f pass m later ≡ chosen_at side (here inside rest) pass m None
unfolding chosen_at
chosen_here side pass inside [] f m later e = ap (λ (f : Front). chosen_at side f pass m later) (sym e)
chosen_here side pass inside (o ∷ rest) f m later e = ap (λ (f : Front). chosen_at side f pass m later) (sym e)

pub chosen_broken : (side : Side) (pass : Pass) (f : Front) (m : Slots) (later : Option Slots) → broken ≡ f → chosen_at side f pass m later ≡ None
unfolding chosen_at
chosen_broken side pass f m later e = ap (λ (f : Front). chosen_at side f pass m later) (sym e)

pub chosen_later : (side : Side) (pass : Pass) (f : Front) (m : Slots) (later : Option Slots) → elsewhere ≡ f → chosen_at side f pass m later ≡ later
unfolding chosen_at
chosen_later side pass f m later e = ap (λ (f : Front). chosen_at side f pass m later) (sym e)

-- ---- short elements

pub one_there : (ident : ℕ) (low high : ℤ) (os : List ℕ) → IsOne ident low high os → (begins ident os ≡ true) × (split (after_one os) ≡ Some (get_or os 2 0 ∷ [], drop 3 os))
unfolding split length_at
one_there ident low high [] o = absurd (omega (arith, o.room))
one_there ident low high (x ∷ []) o = absurd (omega (arith, o.room))
one_there ident low high (x ∷ y ∷ []) o = absurd (omega (arith, o.room))
one_there ident low high (x ∷ y ∷ a ∷ os) o = (eq-eqb x ident o.begins, rw o.size (cond-false (ltb (length (a ∷ os)) 1) _ _ (le-ltb (length (a ∷ os)) 1 (omega arith))))

pub two_there : (ident : ℕ) (low high : ℤ) (os : List ℕ) → IsTwo ident low high os → (begins ident os ≡ true) × (split (after_one os) ≡ Some (get_or os 2 0 ∷ get_or os 3 0 ∷ [], drop 4 os))
unfolding split length_at
two_there ident low high [] o = absurd (omega (arith, o.room))
two_there ident low high (x ∷ []) o = absurd (omega (arith, o.room))
two_there ident low high (x ∷ y ∷ []) o = absurd (omega (arith, o.room))
two_there ident low high (x ∷ y ∷ a ∷ []) o = absurd (omega (arith, o.room))
two_there ident low high (x ∷ y ∷ a ∷ b ∷ os) o = (eq-eqb x ident o.begins, rw o.size (cond-false (ltb (length (a ∷ b ∷ os)) 2) _ _ (le-ltb (length (a ∷ b ∷ os)) 2 (omega arith))))
