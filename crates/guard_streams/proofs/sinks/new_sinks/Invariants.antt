use Rattle.std.proofs.Common.{◌≡◌, length}
use Rattle.std.specs.List.{All}
use Rattle.guard_streams.specs.inside.Doing.{AreEmpty}
use Rattle.guard_streams.proofs.sinks.new_sinks.Given as goal

abbrev pub invariant-loop : goal.invariant-loop
invariant-loop l = record { many : length l.ends.items ≡ l.counter; empty : All AreEmpty l.ends.items }
