use Rattle.std.proofs.Common.{◌≡◌, ◌+◌, ◌≤◌, length}
use Rattle.guard_lexer.specs.inside.Reading.{behind_block_comment}
use Rattle.guard_lexer.proofs.comment.behind_block_comment.Given as goal

abbrev pub invariant-loop-left : goal.invariant-loop-left
invariant-loop-left l = record {
  inner : l.inner + length l.left ≤ length l.text;
  reads : behind_block_comment l.inner l.left ≡ behind_block_comment 0 l.text;
}

abbrev pub decreases-loop-left : goal.decreases-loop-left
decreases-loop-left l = length l.left
