-- Contained types and SIZE where they apply, and where they don't.
use Rattle.std.proofs.Common.{◌≡◌, refl, ℤ, Bool, true, false, ◌&&◌, [], IsTrue}
use Rattle.std.specs.Prelude.{nat_le}
use Rattle.std.proofs.lemmas.Bool.{and_parts}
use Rattle.guard_model.specs.AbstractType as type
use Rattle.guard_model.specs.AbstractType.{AbstractType, AbstractKind, Constraint, type_of, no_constraints}
use Rattle.guard_model.specs.AbstractValue as value
use Rattle.guard_model.specs.AbstractValue.{AbstractValue}
use Rattle.guard_model.specs.Kinds.{kind_of, is_integer, type_of_size}
use Rattle.guard_model.specs.SameBase.{HasSameBase}
use Rattle.guard_model.specs.SameType.{same_base}
use Rattle.guard_model.proofs.SameTypes.{same_base-Decides}
use Rattle.guard_tagcheck.specs.Limits.{nesting}
use Rattle.guard_der.specs.ProperConstraints.{takes_size}
use Rattle.guard_der.specs.Sound.{is_proper, has_distinct_tags, is_proper_constraint, is_proper_element}
use Rattle.guard_eval.specs.Elements.{has_base, has_size}
use Rattle.guard_eval.specs.Member.{holds, holds_element, is_member}

-- a test that is passed adds nothing
pub with_true : (a b : Bool) → IsTrue a → b ≡ (a && b)
with_true true b h = refl
with_true false b h = absurd cc

and_false : (a : Bool) → (a && false) ≡ false
and_false true = refl
and_false false = refl

pub base_kept : (u : AbstractType) (kind : AbstractKind) → HasSameBase u (type_of [] kind no_constraints) → IsTrue (has_base kind u)
base_kept u kind h = (same_base-Decides u (type_of [] kind no_constraints)).1 h

-- ---- on a type that may have them

pub contained_holds : (u t : AbstractType) (v : AbstractValue) → IsTrue (is_proper_element (type.contained_subtype u) t) → is_member u v ≡ holds_element (type.contained_subtype u) (kind_of t) v
contained_holds u (type_of tags kind cons) v h =
    with_true (has_base kind u) (is_member u v) (and_parts (same_base u (type_of tags kind cons)) (is_proper u && has_distinct_tags u && nat_le (nesting u) 32) h).0

pub size_holds : (c : Constraint) (t : AbstractType) (v : AbstractValue) → IsTrue (is_proper_element (type.size c) t) → has_size (holds c (type.integer [])) v ≡ holds_element (type.size c) (kind_of t) v
size_holds c t v h = with_true (takes_size (kind_of t)) (has_size (holds c (type.integer [])) v) (and_parts (takes_size (kind_of t)) (is_proper_constraint c type_of_size) h).0

-- ---- what holds

pub contained_inside : (u : AbstractType) (kind : AbstractKind) (v : AbstractValue) → holds_element (type.contained_subtype u) kind v ≡ true → is_member u v ≡ true
contained_inside u kind v h = (and_parts (has_base kind u) (is_member u v) h).1

pub size_inside : (c : Constraint) (kind : AbstractKind) (v : AbstractValue) → holds_element (type.size c) kind v ≡ true → has_size (holds c (type.integer [])) v ≡ true
size_inside c kind v h = (and_parts (takes_size kind) (has_size (holds c (type.integer [])) v) h).1

-- ---- of integers

-- a type that has an integer is of the base of each INTEGER
of_integers : (u : AbstractType) (z : ℤ) → is_member u (value.integer z) ≡ (has_base (type.integer []) u && is_member u (value.integer z))
of_integers (type_of tags type.boolean cons) z = refl
of_integers (type_of tags (type.integer names) cons) z = refl
of_integers (type_of tags (type.bit_string names) cons) z = refl
of_integers (type_of tags type.octet_string cons) z = refl
of_integers (type_of tags type.null cons) z = refl
of_integers (type_of tags type.object_identifier cons) z = refl
of_integers (type_of tags (type.enumerated items) cons) z = refl
of_integers (type_of tags (type.characters k) cons) z = refl
of_integers (type_of tags (type.sequence cs) cons) z = refl
of_integers (type_of tags (type.set cs) cons) z = refl
of_integers (type_of tags (type.choice cs) cons) z = refl
of_integers (type_of tags (type.sequence_of t) cons) z = refl
of_integers (type_of tags (type.set_of t) cons) z = refl

pub contained_integer : (u : AbstractType) (kind : AbstractKind) (z : ℤ) → IsTrue (is_integer kind) → is_member u (value.integer z) ≡ holds_element (type.contained_subtype u) kind (value.integer z)
contained_integer u (type.integer names) z h = of_integers u z
contained_integer u _ z h = absurd cc

-- an integer has no size
pub never_sized : (c : Constraint) (kind : AbstractKind) (z : ℤ) → holds_element (type.size c) kind (value.integer z) ≡ false
never_sized c kind z = and_false (takes_size kind)
