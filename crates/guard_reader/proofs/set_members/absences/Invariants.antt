use Rattle.std.proofs.Common.{◌≡◌, ◌-◌, List, ℕ}
use Rattle.guard_tables.specs.NodesView.{spots_in}
use Rattle.guard_tables.specs.TableNodes.{parts_between}
use Rattle.guard_reader.specs.Judging.{absences_at}
use Rattle.guard_reader.specs.inside.Members.{AreRead}
use Rattle.guard_reader.proofs.set_members.absences.Given as goal

abbrev pub invariant-loop-k : goal.invariant-loop-k
invariant-loop-k l =
    (places : List ℕ) → AreRead l.read places
    → absences_at (l.k - l.first) (parts_between (spots_in l.table) l.k (l.k-end - l.k)) places l.failed
    ≡ absences_at 0 (parts_between (spots_in l.table) l.first l.count) places l.fn.failed
