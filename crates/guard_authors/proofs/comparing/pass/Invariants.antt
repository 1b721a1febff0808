use Rattle.std.proofs.Common.{◌-◌, length}
use Rattle.guard_authors.specs.Differing.{comparison_view}
use Rattle.guard_authors.specs.inside.Pieces.{HasPassed}
use Rattle.guard_authors.proofs.comparing.pass.Given as goal

abbrev pub invariant-loop-frame : goal.invariant-loop-frame
invariant-loop-frame l =
    HasPassed (comparison_view l.comparison) l.octets l.initial.sums l.initial.lines.items l.at l.sums l.lines.items

abbrev pub decreases-loop-frame : goal.decreases-loop-frame
decreases-loop-frame l = length l.octets - l.at
