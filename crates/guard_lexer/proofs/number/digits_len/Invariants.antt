use Rattle.std.proofs.Common.{length, drop, ◌-◌, ◌≡◌, ◌≤◌, ◌+◌}
use Rattle.std.specs.List.{prefix_len}
use Rattle.guard_lexer.specs.Octets.{is_digit}
use Rattle.guard_lexer.proofs.number.digits_len.Given as goal

abbrev pub invariant-loop-n : goal.invariant-loop-n
invariant-loop-n l = record {
  within : l.n ≤ length l.text;
  reads : l.n + prefix_len is_digit (drop l.n l.text) ≡ prefix_len is_digit l.text;
}

abbrev pub decreases-loop-n : goal.decreases-loop-n
decreases-loop-n l = length l.text - l.n
