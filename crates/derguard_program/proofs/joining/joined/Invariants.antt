use Rattle.std.proofs.Common.{◌≡◌, ◌++◌, length, map, string_bytes}
use Rattle.derguard_program.specs.Words.{joined}
use Rattle.derguard_program.specs.inside.Joining.{joined_from}
use Rattle.derguard_program.proofs.joining.joined.Given as goal

abbrev pub invariant-loop-rest : goal.invariant-loop-rest
invariant-loop-rest l =
    map string_bytes l.made.items ++ joined_from l.is_open (map (λ w. w.now) l.rest) ≡ joined (map (λ w. w.now) l.words)

abbrev pub decreases-loop-rest : goal.decreases-loop-rest
decreases-loop-rest l = length l.rest
