use Rattle.std.proofs.Common.{map, refl}
use Rattle.std.specs.List.{flat_map}
use Rattle.guard_syntax.specs.SetViews.{constraint_view}
use Rattle.guard_names.specs.Mentions as mentions
use Rattle.guard_names.proofs.Mentioned.Gathering.{one_more, all_gathered}
use Rattle.guard_names.proofs.mentions.add_constraints.Goals as goal

pub loop-constraint-init : goal.loop-constraint-init
loop-constraint-init c = refl

pub loop-constraint-preserved : goal.loop-constraint-preserved
loop-constraint-preserved c =
    one_more (λ xs. flat_map mentions.in_constraint (map constraint_view xs)) c.args.cons.now c.loop-constraint.constraint-index _
    c.constraint-item.result _ _ _ c.loop-constraint-test.true c.constraint-item.is c.in_ok-add_constraint.ensures c.loop-constraint.invariant refl

pub returns : goal.returns
returns c =
    all_gathered (λ xs. flat_map mentions.in_constraint (map constraint_view xs)) c.args.cons.now c.loop-constraint.constraint-index _ _ c.loop-constraint-test.false refl c.loop-constraint.invariant
