use Rattle.std.proofs.Common.{length, drop, ◌-◌, ◌≡◌, ◌≤◌, ◌+◌}
use Rattle.guard_lexer.specs.inside.Reading.{comment_body_len}
use Rattle.guard_lexer.proofs.comment.comment_body_len.Given as goal

abbrev pub invariant-loop-n : goal.invariant-loop-n
invariant-loop-n l = record {
  within : l.n ≤ length l.text;
  reads : l.n + comment_body_len (drop l.n l.text) ≡ comment_body_len l.text;
}

abbrev pub decreases-loop-n : goal.decreases-loop-n
decreases-loop-n l = length l.text - l.n
