use Rattle.std.proofs.Common.{◌≡◌, ◌++◌, ◌-◌}
use Rattle.guard_report.specs.Layouts.{spaces}
use Rattle.guard_report.proofs.layout.add_new_line.Given as goal

abbrev pub invariant-loop : goal.invariant-loop
invariant-loop l = l.text.items ++ spaces (l.level - l.counter) ≡ l.initial.text.items ++ spaces l.level
