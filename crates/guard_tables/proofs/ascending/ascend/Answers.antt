use Rattle.std.proofs.Common.{◌∙◌, sym, arith}
use Rattle.guard_tables.proofs.AscendingParts.{without_tag, before_last, after_last, all_ascend}
use Rattle.guard_tables.proofs.ascending.ascend.Goals as goal

pub returns-in_default : goal.returns-in_default
returns-in_default c =
    without_tag c.args.comps.now c.loop-comp.comp-index c.comp-item.result c.loop-comp.last c.outer_tag.result _ c.loop-comp-test.true c.comp-item.is c.outer_tag.ensures c.in_default.is c.loop-comp.invariant

pub returns-then-not-follows : goal.returns-then-not-follows
returns-then-not-follows c =
    before_last c.args.comps.now c.loop-comp.comp-index c.comp-item.result c.loop-comp.last c.outer_tag.result c.in-Some.tag _ c.loop-comp-test.true c.comp-item.is c.outer_tag.ensures c.in-Some.is
    (sym c.follows.ensures ∙ c.if-not-follows.true) c.loop-comp.invariant

pub loop-comp-preserved : goal.loop-comp-preserved
loop-comp-preserved c =
    after_last c.args.comps.now c.loop-comp.comp-index c.comp-item.result c.loop-comp.last c.outer_tag.result c.in-Some.tag _ c.loop-comp-test.true c.comp-item.is c.outer_tag.ensures c.in-Some.is
    (sym c.follows.ensures ∙ c.if-not-follows.false) c.loop-comp.invariant

pub returns : goal.returns
returns c = all_ascend c.args.comps.now c.loop-comp.comp-index c.loop-comp.last _ (omega (arith, c.loop-comp-test.false)) c.loop-comp.invariant
