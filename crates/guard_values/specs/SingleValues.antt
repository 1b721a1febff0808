-- Single values in a type's own constraints, and how many octets the contents of their encodings have at most (X.690
-- 8.1.1). The encodings under all tags follow from those.
use Rattle.std.specs.Prelude.{ℕ, Bool, true, false, not, ◌&&◌, ◌||◌, List, [], ◌∷◌, length, nat_le, Option, Some, None}
use Rattle.std.specs.Global.{Global}
use Rattle.std.specs.declared.sync.Arc.{Arc}
use Rattle.guard_model.specs.AbstractType as type
use Rattle.guard_model.specs.AbstractType.{AbstractType, AbstractKind, Constraint, Constraints, Element, type_of}
use Rattle.guard_model.specs.AbstractValue.{AbstractValue}
use Rattle.guard_model.specs.TypeView.{shared_type_view}
use Rattle.guard_model.specs.declared.ty.Ty.{Ty}
use Rattle.guard_der.specs.Der.{contents_octets}
use Rattle.guard_der.specs.Fits.{fits_kind}

-- Each single value in a constraint on a type passes a test. What is said of the type's parts, its size or its characters
-- isn't said of the type's own values, and a contained type has constraints of its own.
abbrev mutual
  pub each_value : (AbstractValue → Bool) → Constraint → Bool
  each_value test (type.at site e) = each_value_there test e

  pub each_value_there : (AbstractValue → Bool) → Element → Bool
  each_value_there test (type.single_value v) = test v
  each_value_there test (type.contained_subtype u) = true
  each_value_there test (type.range low high) = true
  each_value_there test (type.size c) = true
  each_value_there test (type.permitted_alphabet ranges) = true
  each_value_there test (type.with_component c) = true
  each_value_there test (type.with_components partial ps) = true
  each_value_there test (type.union cs) = each_value_in_all test cs
  each_value_there test (type.intersection cs) = each_value_in_all test cs
  each_value_there test (type.except c d) = each_value test c && each_value test d
  each_value_there test (type.all_except c) = each_value test c

  pub each_value_in_all : (AbstractValue → Bool) → Constraints → Bool
  each_value_in_all test type.no_constraints = true
  each_value_in_all test (type.constraint c cs) = each_value test c && each_value_in_all test cs

-- there are octets, and no more than so many
abbrev pub are_within : ℕ → Option (List ℕ) → Bool
are_within n None = false
are_within n (Some os) = nat_le (length os) n

-- if the value is one of the kind, its contents octets are no more than so many
abbrev pub has_within : ℕ → AbstractKind → AbstractValue → Bool
has_within n kind v = not (fits_kind kind v) || are_within n (contents_octets kind v)

-- the contents of no single value in the type's own constraints are more octets than so many
abbrev pub keeps_within : ℕ → AbstractType → Bool
keeps_within n (type_of tags kind cons) = each_value_in_all (has_within n kind) cons

-- nothing is said where no such number is known
abbrev pub is_bounded : Option ℕ → AbstractType → Bool
is_bounded None t = true
is_bounded (Some n) t = keeps_within n t

-- one beside each type
abbrev pub are_bounded : List (Option ℕ) → List (Arc Ty Global) → Bool
are_bounded [] [] = true
are_bounded (n ∷ ns) (t ∷ ts) = is_bounded n (shared_type_view t) && are_bounded ns ts
are_bounded [] (t ∷ ts) = false
are_bounded (n ∷ ns) [] = false
