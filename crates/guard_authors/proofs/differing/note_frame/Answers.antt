use Rattle.std.proofs.Common.{◌∙◌, sym, true≢false}
use Rattle.std.proofs.lemmas.List.{append-nil}
use Rattle.std.proofs.lemmas.Result.{on_ok_weaker}
use Rattle.guard_authors.proofs.RowsCounted.{ok_if}
use Rattle.guard_authors.proofs.differing.note_frame.Goals as goal

pub returns-then-comparison-clause-line : goal.returns-then-comparison-clause-line
returns-then-comparison-clause-line c = ok_if c.count.result (rw c.if-comparison.true (sym (append-nil c.args.lines.now.items)))

pub returns-then-comparison-clause-counted : goal.returns-then-comparison-clause-counted
returns-then-comparison-clause-counted c = on_ok_weaker c.count.result (λ h asked. h) c.count.ensures.counted

pub returns-else-comparison-clause-line : goal.returns-else-comparison-clause-line
returns-else-comparison-clause-line c = rw c.if-comparison.false c.add.ensures

pub returns-else-comparison-clause-counted : goal.returns-else-comparison-clause-counted
returns-else-comparison-clause-counted c =
    ok_if c.add.result (λ asked. absurd (true≢false (sym asked ∙ c.if-comparison.false)))
