-- Single values in constraints whose encodings are longer than may be. A constraint is lawful where it is written; a
-- type that is referred to under more tags, or under another one, keeps its constraints, and the encodings of their
-- values get longer. Its parts keep their tags.
use Rattle.std.specs.Prelude.{Bool, not, ◌&&◌, Option, Some, None, if◌then◌else◌}
use Rattle.std.specs.Option.{option_or}
use Rattle.guard_model.specs.declared.site.Site.{Site}
use Rattle.guard_model.specs.AbstractType as type
use Rattle.guard_model.specs.AbstractType.{AbstractType, type_of}
use Rattle.guard_model.specs.AbstractType.{Constraint, Constraints, Element}
use Rattle.guard_model.specs.AbstractValue.{AbstractValue}
use Rattle.guard_der.specs.Der.{der}
use Rattle.guard_der.specs.Fits.{fits}
use Rattle.guard_der.specs.ProperConstraints.{is_short}

-- a value of the type whose encoding is longer than may be
abbrev pub is_long : AbstractType → AbstractValue → Bool
is_long t v = fits t v && not (is_short (der t v))

abbrev pub site_where : Bool → Site → Option Site
site_where here site = if here then Some site else None

-- where the first one is in a constraint on the type. What is said of its parts, its size or its characters isn't
-- said of the type's own values, and a contained type has constraints of its own.
abbrev mutual
  pub long_in : AbstractType → Constraint → Option Site
  long_in t (type.at site e) = long_there t site e

  pub long_there : AbstractType → Site → Element → Option Site
  long_there t site (type.single_value v) = site_where (is_long t v) site
  long_there t site (type.contained_subtype u) = None
  long_there t site (type.range low high) = None
  long_there t site (type.size c) = None
  long_there t site (type.permitted_alphabet ranges) = None
  long_there t site (type.with_component c) = None
  long_there t site (type.with_components partial ps) = None
  long_there t site (type.union cs) = long_in_all t cs
  long_there t site (type.intersection cs) = long_in_all t cs
  long_there t site (type.except c d) = option_or (long_in t c) (long_in t d)
  long_there t site (type.all_except c) = long_in t c

  pub long_in_all : AbstractType → Constraints → Option Site
  long_in_all t type.no_constraints = None
  long_in_all t (type.constraint c cs) = option_or (long_in t c) (long_in_all t cs)

-- where the first one is in the type's own constraints
abbrev pub first_long : AbstractType → Option Site
first_long (type_of tags kind cons) = long_in_all (type_of tags kind cons) cons
