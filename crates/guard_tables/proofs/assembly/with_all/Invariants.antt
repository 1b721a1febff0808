use Rattle.std.proofs.Common.{◌≡◌, ◌++◌}
use Rattle.std.specs.Vec.Iter.{into_iter_items}
use Rattle.guard_tables.specs.inside.Aside.{spots_at}
use Rattle.guard_tables.specs.inside.Assembled.{spots_so_far}
use Rattle.guard_tables.proofs.assembly.with_all.Given as goal

-- those that have come stand for what they stood for before any of them had
abbrev pub invariant-loop-node : goal.invariant-loop-node
invariant-loop-node l = record {
  walked : l.yielded ++ into_iter_items l.node-iterator ≡ into_iter_items l.initial.node-iterator;
  came : spots_so_far l.builder ≡ spots_so_far l.initial.builder ++ spots_at (spots_so_far l.initial.builder) l.yielded;
}
