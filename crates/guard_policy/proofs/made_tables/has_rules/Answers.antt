use Rattle.guard_tables.specs.TableView.{rules_of}
use Rattle.guard_policy.proofs.MadeTables.{one_more}
use Rattle.guard_policy.proofs.made_tables.has_rules.Goals as goal

pub loop-place-preserved : goal.loop-place-preserved
loop-place-preserved c =
    one_more (rules_of c.args.table.now) c.args.types.now c.loop-place.place c.index-types-place.result c.loop-place-test.true c.index-types-place.is
    (c.is_rule.ensures c.if-not-is_rule.false) c.loop-place.invariant
