use Rattle.std.proofs.Common.{◌≡◌}
use Rattle.std.specs.Prelude.{replicate}
use Rattle.guard_tables.specs.inside.DemandsOfParts.{parts_asked, nothing_asked}
use Rattle.guard_tables.proofs.demands_of_parts.nothing_asked.Given as goal

abbrev pub invariant-loop : goal.invariant-loop
invariant-loop l = parts_asked l.parts.items ≡ replicate l.counter nothing_asked
