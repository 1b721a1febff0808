use Rattle.std.proofs.Common.{◌≡◌, ◌-◌}
use Rattle.guard_tables.specs.NodesView.{spots_in}
use Rattle.guard_tables.specs.TableNodes.{parts_between}
use Rattle.guard_reader.specs.inside.Members.{member_found}
use Rattle.guard_reader.proofs.set_members.member.Given as goal

abbrev pub invariant-loop-k : goal.invariant-loop-k
invariant-loop-k l =
    member_found (parts_between (spots_in l.table) l.k (l.k-end - l.k)) (l.k - l.first) l.octets
    ≡ member_found (parts_between (spots_in l.table) l.first l.count) 0 l.octets
