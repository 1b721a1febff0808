use Rattle.std.proofs.Common.{◌≡◌, ◌<◌, ◌++◌, length}
use Rattle.std.specs.Prelude.{All}
use Rattle.guard_values.specs.Strings.{packed}
use Rattle.guard_values.proofs.strings.packed.Given as goal

abbrev pub invariant-loop-rest : goal.invariant-loop-rest
invariant-loop-rest l = record {
  so_far : l.octets.items ++ packed l.base l.places (length l.rest) l.rest ≡ packed l.base l.places (length l.digits) l.digits;
  small : All (λ d. d < l.base) l.rest;
}

abbrev pub decreases-loop-rest : goal.decreases-loop-rest
decreases-loop-rest l = length l.rest
