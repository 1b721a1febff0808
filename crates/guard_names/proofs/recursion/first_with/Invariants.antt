use Rattle.std.proofs.Common.{◌≡◌, take}
use Rattle.std.specs.Prelude.{fold}
use Rattle.guard_names.specs.inside.Searches.{lesser}
use Rattle.guard_names.proofs.recursion.first_with.Given as goal

abbrev pub invariant-loop-number : goal.invariant-loop-number
invariant-loop-number l = l.least ≡ fold lesser l.fn.first (take l.number-index l.numbers)
