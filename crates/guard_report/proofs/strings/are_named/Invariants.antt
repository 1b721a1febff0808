use Rattle.std.proofs.Common.{◌≡◌, drop, map}
use Rattle.guard_model.specs.TypeView.{named_view}
use Rattle.guard_report.specs.Strings.{are_named}
use Rattle.guard_report.proofs.strings.are_named.Given as goal

abbrev pub invariant-loop-at : goal.invariant-loop-at
invariant-loop-at l = are_named (map named_view l.names) l.at (drop l.at l.bits) ≡ are_named (map named_view l.names) 0 l.bits
