use Rattle.guard_authors.proofs.TriedCases.{counted}
use Rattle.guard_authors.proofs.testing.answer_of.Goals as goal

pub returns : goal.returns
returns c = (
  c.in_ok-tried.tried.lines.items,
  c.in_ok-tried.tried.failed,
  c.in_ok-tried.tried.reached.items,
  c.in_ok-tried.ensures,
  rw (counted c.args.items.now)
      (rw (c.in_ok-add.ensures, c.as_bytes.ensures.value, c.in_ok-last.ensures, c.deref-2.ensures.value, c.in_ok-unreached.ensures, c.deref.ensures.value)
      at c.in_ok-add-2.ensures),
  c.tested_status.ensures,
)
