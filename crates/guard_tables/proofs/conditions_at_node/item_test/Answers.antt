use Rattle.std.proofs.Common.{rules}
use mir.Syntax.{w128}
use mir.Val.{SFits}
use Rattle.guard_model.specs.TypeView.{kind_view}
use Rattle.guard_tables.proofs.ItemTests.{item_fits}
use Rattle.guard_tables.proofs.conditions_at_node.item_test.Goals as goal

pub push_item-requires-clause-item : goal.push_item-requires-clause-item
push_item-requires-clause-item c =
    let item = c.item-item.result in
    let fit : SFits w128 item.number = search rules in
    item_fits (kind_view c.args.kind.now) c.args.items.now c.loop-item.item-index item c.loop-item-test.true c.item-item.is fit c.requires.kind
