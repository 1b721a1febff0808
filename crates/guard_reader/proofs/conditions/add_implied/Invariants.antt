use Rattle.std.proofs.Common.{◌≡◌, drop, map}
use Rattle.guard_tables.specs.Formulas.{implied}
use Rattle.guard_tables.specs.NodeViews.{implication_view}
use Rattle.guard_reader.proofs.conditions.add_implied.Given as goal

abbrev pub invariant-loop-implication : goal.invariant-loop-implication
invariant-loop-implication l = implied (map implication_view (drop l.implication-index l.implications)) l.inner l.failed ≡ implied (map implication_view l.implications) l.inner l.fn.failed
