use Rattle.std.proofs.Common.{◌≡◌, ◌+◌, ◌-◌, ◌*◌}
use Rattle.guard_tables.specs.NodesView.{spots_in}
use Rattle.guard_tables.specs.TableNodes.{body_at, parts_between}
use Rattle.guard_reader.specs.Fronts.{all_inside, body_front, parts_front}
use Rattle.guard_reader.proofs.element_fronts.+fronts.Given as goal

abbrev pub decreases-front_at : goal.decreases-front_at
decreases-front_at l = 4 * l.at + 3

abbrev pub decreases-far_front : goal.decreases-far_front
decreases-far_front l = 4 * l.at + 2

abbrev pub decreases-untagged : goal.decreases-untagged
decreases-untagged l = 4 * l.at + 1

abbrev pub decreases-alternatives : goal.decreases-alternatives
decreases-alternatives l = 4 * l.at

abbrev pub invariant-alternatives-loop-k : goal.invariant-alternatives-loop-k
invariant-alternatives-loop-k l =
    all_inside l.octets (parts_front (parts_between (spots_in l.table) l.k (l.k-end - l.k)) l.octets)
    ≡ body_front (body_at (spots_in l.table) l.at) l.octets
