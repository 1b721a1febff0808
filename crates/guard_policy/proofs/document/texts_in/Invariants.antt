use Rattle.std.proofs.Common.{drop}
use Rattle.toml.specs.Data.{as_str}
use Rattle.toml.specs.View.{items_view}
use Rattle.guard_policy.specs.inside.Answers.{texts_view}
use Rattle.guard_policy.specs.Documents.{items_as}
use Rattle.guard_policy.proofs.Gathered.{Gathered}
use Rattle.guard_policy.proofs.document.texts_in.Given as goal

abbrev pub invariant-loop-item : goal.invariant-loop-item
invariant-loop-item l = Gathered as_str (texts_view l.texts.items) (items_view (drop l.item-index l.items)) (items_as as_str (items_view l.items))
