use Rattle.guard_authors.proofs.summary.Sums.count.Goals as goal

pub returns-clause-counted : goal.returns-clause-counted
returns-clause-counted c = (
  (c.in_ok-before.before, c.in_ok-before.ensures, c.add.ensures _),
  (c.in_ok-after.after, c.in_ok-after.ensures, c.add-2.ensures _),
)
