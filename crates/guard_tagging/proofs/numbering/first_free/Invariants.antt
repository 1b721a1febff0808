use Rattle.std.proofs.Common.{◌≡◌, ◌+◌, ◌-◌}
use Rattle.guard_tagging.specs.Enumerations.{free_from}
use Rattle.guard_tagging.proofs.numbering.first_free.Given as goal

abbrev pub invariant-loop-tried : goal.invariant-loop-tried
invariant-loop-tried l =
    (l.number ≡ l.from + l.tried) × (free_from l.taken.keys (l.tries - l.tried) l.number
    ≡ free_from l.taken.keys l.tries l.from)
