use Rattle.std.proofs.Common.{◌≡◌, ◌++◌, length}
use Rattle.guard_values.specs.Strings.{up_to_quote, quoted}
use Rattle.guard_values.proofs.strings.quoted.Given as goal

abbrev pub invariant-loop-rest : goal.invariant-loop-rest
invariant-loop-rest l = l.octets.items ++ up_to_quote l.rest ≡ quoted l.spelling

abbrev pub decreases-loop-rest : goal.decreases-loop-rest
decreases-loop-rest l = length l.rest
