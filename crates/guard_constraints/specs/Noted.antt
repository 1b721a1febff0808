-- What is noted of a type while its constraints are read: types of definitions that are known to have its base, so that
-- they aren't compared with it again; and the type with one constraint more.
use Rattle.std.specs.Prelude.{◌≡◌, ℕ, true, IsTrue}
use Rattle.std.specs.BTreeSet.{BTreeSet, contains}
use Rattle.std.specs.Ordering.{nat_cmp}
use Rattle.guard_model.specs.AbstractType as type
use Rattle.guard_model.specs.AbstractType.{AbstractType, Constraint, Constraints, type_of}
use Rattle.guard_values.specs.declared.scope.Known.{Known}
use Rattle.guard_values.specs.Views.{type_at}
use Rattle.guard_constraints.specs.Visible.{has_base_of}

-- each of these places is that of a definition whose type has the base
abbrev pub AreAgreed : Known → AbstractType → BTreeSet ℕ → Type 0
AreAgreed known t places = (place : ℕ) → contains nat_cmp places place ≡ true → IsTrue (has_base_of t (type_at known place))

abbrev pub add : Constraints → Constraint → Constraints
add type.no_constraints c = type.constraint c type.no_constraints
add (type.constraint d ds) c = type.constraint d (add ds c)

-- the type with one constraint more, after those that it has
abbrev pub with_constraint : AbstractType → Constraint → AbstractType
with_constraint (type_of tags kind cons) c = type_of tags kind (add cons c)
