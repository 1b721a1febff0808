use Rattle.guard_tagcheck.proofs.LimitTests.{list_refused, list_goes_on, list_too_long, list_done}
use Rattle.guard_tagcheck.proofs.limits.+limits.Goals as goal

pub are_within-returns-then-comps-gt-MOST_COMPONENTS : goal.are_within-returns-then-comps-gt-MOST_COMPONENTS
are_within-returns-then-comps-gt-MOST_COMPONENTS t c = list_too_long c.args.comps.now c.args.depth c.if-comps-gt-MOST_COMPONENTS.true

pub are_within-returns-then-not-is_within : goal.are_within-returns-then-not-is_within
are_within-returns-then-not-is_within t c = list_refused c.args.comps.now c.loop-comp.comp-index c.comp-item.result c.args.depth c.is_within.result c.loop-comp-test.true c.comp-item.is c.is_within.ensures c.if-not-is_within.true c.loop-comp.invariant

pub are_within-loop-comp-preserved : goal.are_within-loop-comp-preserved
are_within-loop-comp-preserved t c = list_goes_on c.args.comps.now c.loop-comp.comp-index c.comp-item.result c.args.depth c.is_within.result c.loop-comp-test.true c.comp-item.is c.is_within.ensures c.if-not-is_within.false c.loop-comp.invariant

pub are_within-returns : goal.are_within-returns
are_within-returns t c = list_done c.args.comps.now c.loop-comp.comp-index c.args.depth c.loop-comp-test.false c.if-comps-gt-MOST_COMPONENTS.false c.loop-comp.invariant
