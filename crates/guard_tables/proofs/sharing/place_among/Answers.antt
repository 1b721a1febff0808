use Rattle.guard_model.specs.TypeView.{type_view}
use Rattle.guard_tables.proofs.SharedTypes.{here, further}
use Rattle.guard_tables.proofs.sharing.place_among.Goals as goal

pub returns-then-same-clause-result : goal.returns-then-same-clause-result
returns-then-same-clause-result c =
    here c.args.types.now c.loop-place.place c.index-types-place.result (type_view c.args.ty.now) c.same.result c.loop-place-test.true c.index-types-place.is
    c.same.ensures.test c.if-same.true _ c.loop-place.invariant

pub loop-place-preserved : goal.loop-place-preserved
loop-place-preserved c =
    further c.args.types.now c.loop-place.place c.index-types-place.result (type_view c.args.ty.now) c.same.result c.loop-place-test.true c.index-types-place.is
    c.same.ensures.test c.if-same.false _ c.loop-place.invariant
