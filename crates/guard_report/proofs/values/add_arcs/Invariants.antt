use Rattle.std.proofs.Common.{◌≡◌, ◌++◌, drop}
use Rattle.guard_report.specs.ValueText.{further_arcs}
use Rattle.guard_report.proofs.values.add_arcs.Given as goal

abbrev pub invariant-loop-arc : goal.invariant-loop-arc
invariant-loop-arc l = l.text.items ++ further_arcs (drop l.arc-index l.others) ≡ l.initial.text.items ++ further_arcs l.others
