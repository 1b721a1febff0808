-- What the items of a node are.
use Rattle.std.specs.Prelude.{ℤ, List, [], map, Option, Some, None}
use Rattle.std.specs.Arc.{arc_value}
use Rattle.std.specs.Global.{Global}
use Rattle.std.specs.declared.sync.Arc.{Arc}
use Rattle.guard_model.specs.AbstractType.{NamedNumber}

-- the numbers of these names
abbrev pub numbers_in : Option (Arc (List NamedNumber) Global) → List ℤ
numbers_in None = []
numbers_in (Some names) = map (λ n. n.number) (arc_value names)
