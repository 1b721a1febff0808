use Rattle.std.proofs.Common.{List, map, ap, ◌∙◌}
use Rattle.guard_model.specs.AbstractType.{characters}
use Rattle.guard_tables.specs.declared.node.Condition.{Condition}
use Rattle.guard_tables.specs.NodeViews.{condition_view}
use Rattle.guard_tables.specs.Plan.{simple}
use Rattle.guard_reader.specs.Judging.{contents_judged}
use Rattle.guard_reader.proofs.AtOnce.{alone, only_one}
use Rattle.guard_reader.proofs.simple.are_spelled_at_once.Goals as goal

pub returns-in-len1 : goal.returns-in-len1
returns-in-len1 c = λ m t.
    let only = alone c.args.conditions.now c.only-item.result c.in-len1.len_at_least c.in-len1.len_below c.only-item.is in
    ap (λ (l : List Condition). contents_judged (simple (characters c.args.kind) (map condition_view l)) c.args.inside.now m) only
    ∙ only_one c.args.kind c.args.inside.now (condition_view c.only-item.result) m (c.passes_at_once.ensures t)
