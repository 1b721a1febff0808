use Rattle.std.proofs.Common.{◌≡◌, ◌++◌, drop}
use Rattle.guard_report.specs.Shown.{digit_lines}
use Rattle.guard_report.proofs.showing.add_digit_lines.Given as goal

abbrev pub invariant-loop-place : goal.invariant-loop-place
invariant-loop-place l =
    l.text.items ++ digit_lines l.place (drop l.place l.octets) ≡ l.initial.text.items ++ digit_lines 0 l.octets
