use Rattle.std.proofs.Common.{◌∙◌, ap, sym, arith}
use Rattle.guard_tables.specs.NodesView.{spots_in}
use Rattle.guard_reader.specs.Fronts.{element_in}
use Rattle.guard_reader.specs.inside.NodeParts.{sight_at}
use Rattle.guard_reader.proofs.ElementCounts.{one_counted, none_counted, nothing_counted}
use Rattle.guard_reader.proofs.NodeSteps.{sees_within}
use Rattle.guard_reader.proofs.whole.count.Goals as goal

pub returns-in_default : goal.returns-in_default
returns-in_default c =
    let sight = sight_at (spots_in c.args.table.now) c.args.at in
    let none = none_counted sight c.loop-rest.rest.now (sym c.is_empty.ensures ∙ c.loop-rest-test.true) (ap element_in (sym c.front_at.ensures) ∙ sym c.in_default.ensures) in
    omega (arith, none, c.loop-rest.invariant.counted)

pub loop-rest-preserved : goal.loop-rest-preserved
loop-rest-preserved c =
    let sight = sight_at (spots_in c.args.table.now) c.args.at in
    let one = one_counted sight c.loop-rest.rest.now _ (sees_within c.args.table.now c.args.at) (sym c.is_empty.ensures ∙ c.loop-rest-test.true) (ap element_in (sym c.front_at.ensures) ∙ sym c.in-Some.ensures) in
    record {
      counted = omega (arith, one.0, c.loop-rest.invariant.counted);
      room = omega (arith, one.1, c.loop-rest.invariant.room);
    }

pub loop-rest-smaller : goal.loop-rest-smaller
loop-rest-smaller c =
    let sight = sight_at (spots_in c.args.table.now) c.args.at in
    (one_counted sight c.loop-rest.rest.now _ (sees_within c.args.table.now c.args.at) (sym c.is_empty.ensures ∙ c.loop-rest-test.true) (ap element_in (sym c.front_at.ensures) ∙ sym c.in-Some.ensures)).1

pub returns : goal.returns
returns c =
    let nothing = nothing_counted (sight_at (spots_in c.args.table.now) c.args.at) c.loop-rest.rest.now (sym c.is_empty.ensures ∙ c.loop-rest-test.false) in
    omega (arith, nothing, c.loop-rest.invariant.counted)
