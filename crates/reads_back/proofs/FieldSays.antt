-- The entries of components say their fields.
use Rattle.std.proofs.Common.{◌≡◌, ℕ, suc, ◌<◌, ◌≤◌, true, false, List, [], ◌∷◌, Option, Some, None, nat_eq, nat_le, refl, arith}
use Rattle.std.proofs.lemmas.Bool.{and_from, or_left}
use Rattle.std.proofs.lemmas.Bool.Decides.{nat_tests}
use Rattle.guard_model.specs.AbstractType as type
use Rattle.guard_model.specs.AbstractType.{AbstractType, AbstractPresence, Components, no_components, component}
use Rattle.guard_model.specs.AbstractValue as value
use Rattle.guard_model.specs.AbstractValue.{AbstractValue, Fields}
use Rattle.guard_der.specs.Fits.{may_be_absent}
use Rattle.guard_values.specs.Places.{is_among, are_in_order, LeftOut}

-- the places of the fields that are there; the first field is at place i
abbrev pub given : ℕ → Fields → List (Option ℕ)
given i value.no_fields = []
given i (value.present v fs) = Some i ∷ given (suc i) fs
given i (value.absent fs) = given (suc i) fs

pub in_order : (next i : ℕ) (fs : Fields) → next ≤ i → are_in_order next (given i fs) ≡ true
in_order next i value.no_fields h = refl
in_order next i (value.present v fs) h = and_from _ _ (let le : nat_le next i ≡ true = grind (arith, nat_tests, h) in le) (in_order (suc i) (suc i) fs (omega arith))
in_order next i (value.absent fs) h = in_order next (suc i) fs (omega (arith, h))

unequal : (j i : ℕ) → j < i → nat_eq j i ≡ false
unequal j i h = grind (arith, nat_tests)

above : (j i : ℕ) → i < j → nat_eq j i ≡ false
above j i h = grind (arith, nat_tests)

equal : (i : ℕ) → nat_eq i i ≡ true
equal i = grind (arith, nat_tests)

pub not_given : (j i : ℕ) (fs : Fields) → j < i → is_among j (given i fs) ≡ false
not_given j i value.no_fields h = refl
not_given j i (value.present v fs) h = rw (unequal j i h) (not_given j (suc i) fs (omega (arith, h)))
not_given j i (value.absent fs) h = not_given j (suc i) fs (omega (arith, h))

pub is_given : (i : ℕ) (v : AbstractValue) (fs : Fields) → is_among i (given i (value.present v fs)) ≡ true
is_given i v fs = or_left _ _ (equal i)

pub given_later : (j i : ℕ) (v : AbstractValue) (fs : Fields) → suc i ≤ j → is_among j (given i (value.present v fs)) ≡ is_among j (given (suc i) fs)
given_later j i v fs h = rw (above j i (omega (arith, h))) refl

pub left_out : (presence : AbstractPresence) → may_be_absent presence ≡ true → LeftOut presence None
left_out type.optional h = refl
left_out presence h = absurd cc
