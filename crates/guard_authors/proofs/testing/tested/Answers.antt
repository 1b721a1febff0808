use Rattle.toml.specs.View.{items_view, table_view}
use Rattle.guard_authors.proofs.testing.tested.Goals as goal

pub returns-in-Ok-clause-tested : goal.returns-in-Ok-clause-tested
returns-in-Ok-clause-tested c = (
  items_view c.in_ok-items.items.now,
  (table_view c.in_ok-top.top, c.in_ok-top.ensures.document, c.in_ok-items.ensures.right, c.in_ok-items.ensures.cases),
  c.in-Ok.ensures,
)
