use Rattle.guard_authors.specs.Summary.{place_of, rule_of}
use Rattle.guard_authors.proofs.summary.Counts.add.Goals as goal

pub returns : goal.returns
returns c = λ many rows h. (
  c.count_one.ensures rule_of many rows c.args.row c.rule.ensures h.0,
  c.count_one-2.ensures place_of 6 rows c.args.row c.place.ensures h.1,
)
