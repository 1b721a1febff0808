use Rattle.std.proofs.Common.{◌≡◌, option_map}
use Rattle.guard_values.specs.Places.{located}
use Rattle.guard_values.proofs.Braces.ComponentsByName.{from}
use Rattle.guard_values.proofs.components.located.Given as goal
use Rattle.guard_model.proofs.Components.{left}

abbrev pub invariant-loop-index : goal.invariant-loop-index
invariant-loop-index l = option_map (from l.index) (located l.name (left l.comps l.index)) ≡ located l.name (left l.comps 0)
