use Rattle.std.proofs.Common.{◌≡◌, ◌≤◌, length}
use Rattle.guard_lexer.specs.inside.Reading.{behind_bits}
use Rattle.guard_lexer.proofs.strings.behind_bits.Given as goal

abbrev pub invariant-loop-left : goal.invariant-loop-left
invariant-loop-left l = record {
  within : length l.left ≤ length l.text;
  reads : behind_bits l.left ≡ behind_bits l.text;
}

abbrev pub decreases-loop-left : goal.decreases-loop-left
decreases-loop-left l = length l.left
