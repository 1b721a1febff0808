-- One part of WITH COMPONENTS, as the code reads it.
use Rattle.std.specs.Prelude.{Bool, true, Option, Some, None}
use Rattle.guard_model.specs.AbstractType.{AbstractType, AbstractKind, Constraint}
use Rattle.guard_model.specs.TypeView.{OnePart}
use Rattle.guard_der.specs.ProperConstraints.{is_there_and}
use Rattle.guard_model.specs.Kinds.{part_of}
use Rattle.guard_der.specs.Sound.{is_proper_constraint}

abbrev pub is_proper_within : Option Constraint → AbstractType → Bool
is_proper_within None t = true
is_proper_within (Some c) t = is_proper_constraint c t

abbrev pub is_proper_part : OnePart → AbstractKind → Bool
is_proper_part p kind = is_there_and (is_proper_within p.within) (part_of p.place kind)
