use Rattle.std.proofs.Common.{◌≡◌, ◌+◌, suc, drop, length, sym, ap, ◌∙◌, arith}
use Rattle.std.proofs.lemmas.List.{take_rest, length-drop}
use Rattle.guard_lexer.specs.inside.Reading.{behind_block_comment}
use Rattle.guard_lexer.proofs.CommentsAndStrings.{block_comment-opens, block_comment-closes, block_comment-goes_on}
use Rattle.guard_lexer.proofs.comment.behind_block_comment.Goals as goal

pub loop-left-preserved-then-begins_comment : goal.loop-left-preserved-then-begins_comment
loop-left-preserved-then-begins_comment c =
    let left = c.loop-left.left.now in
    let more : c.loop-left.inner + 1 ≡ suc c.loop-left.inner = omega arith in
    record {
      inner = omega (arith, ap length (take_rest left 2), length-drop 2 left, c.loop-left.invariant.inner, c.loop-left-test.true);
      reads = ap (behind_block_comment (c.loop-left.inner + 1)) (take_rest left 2) ∙ ap (λ n. behind_block_comment n (drop 2 left)) more ∙ sym (block_comment-opens c.loop-left.inner left (sym c.if-begins_comment.ensures)) ∙ c.loop-left.invariant.reads;
    }

pub loop-left-preserved-then-not-ends_comment : goal.loop-left-preserved-then-not-ends_comment
loop-left-preserved-then-not-ends_comment c =
    let left = c.loop-left.left.now in
    record {
      inner = omega (arith, ap length (take_rest left 1), length-drop 1 left, c.loop-left.invariant.inner, c.loop-left-test.true);
      reads = ap (behind_block_comment c.loop-left.inner) (take_rest left 1) ∙ sym (block_comment-goes_on c.loop-left.inner left c.loop-left-test.true (sym c.if-begins_comment.ensures) (sym c.if-not-ends_comment.ensures)) ∙ c.loop-left.invariant.reads;
    }

pub loop-left-preserved : goal.loop-left-preserved
loop-left-preserved c =
    let left = c.loop-left.left.now in
    record {
      inner = omega (arith, ap length (take_rest left 2), length-drop 2 left, c.loop-left.invariant.inner, c.loop-left-test.true, c.if-inner-eq0.false);
      reads = ap (behind_block_comment _) (take_rest left 2) ∙ sym (block_comment-closes c.loop-left.inner left (omega (arith, c.if-inner-eq0.false)) (sym c.if-begins_comment.ensures) (sym c.if-not-ends_comment.ensures)) ∙ c.loop-left.invariant.reads;
    }
