use Rattle.std.proofs.Common.{◌≡◌, ◌≤◌, length}
use Rattle.guard_lexer.specs.inside.Reading.{behind_string}
use Rattle.guard_lexer.proofs.strings.behind_string.Given as goal

abbrev pub invariant-loop-left : goal.invariant-loop-left
invariant-loop-left l = record {
  within : length l.left ≤ length l.text;
  reads : behind_string l.left ≡ behind_string l.text;
}

abbrev pub decreases-loop-left : goal.decreases-loop-left
decreases-loop-left l = length l.left
