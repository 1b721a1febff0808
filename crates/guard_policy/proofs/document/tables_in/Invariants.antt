use Rattle.std.proofs.Common.{drop}
use Rattle.toml.specs.Data.{as_table}
use Rattle.toml.specs.View.{items_view}
use Rattle.guard_policy.specs.inside.Answers.{tables_view}
use Rattle.guard_policy.specs.Documents.{items_as}
use Rattle.guard_policy.proofs.Gathered.{Gathered}
use Rattle.guard_policy.proofs.document.tables_in.Given as goal

abbrev pub invariant-loop-item : goal.invariant-loop-item
invariant-loop-item l = Gathered as_table (tables_view l.tables.items) (items_view (drop l.item-index l.items)) (items_as as_table (items_view l.items))
