use Rattle.std.proofs.Common.{◌≡◌, ◌++◌, drop, map}
use Rattle.guard_constraints.specs.PermittedAlphabets.{alone}
use Rattle.guard_constraints.proofs.alphabets.add_characters.Given as goal

abbrev pub invariant-loop-code : goal.invariant-loop-code
invariant-loop-code l = l.ranges.items ++ map alone (drop l.code-index l.codes) ≡ l.fn.ranges.items ++ map alone l.codes
