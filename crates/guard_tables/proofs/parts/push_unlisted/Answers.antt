use Rattle.std.proofs.Common.{map}
use Rattle.guard_model.specs.TypeView.{kind_view, part_view, parts_of}
use Rattle.guard_tables.proofs.Gathered.{unlisted_more}
use Rattle.guard_tables.proofs.parts.push_unlisted.Goals as goal

pub loop-place-preserved : goal.loop-place-preserved
loop-place-preserved c = unlisted_more (kind_view c.args.kind.now) (parts_of (map part_view c.args.parts.now)) c.args.slots c.components-comps.result.now c.loop-place.place c.index-comps-place.result _ _ _ c.loop-place-test.true c.index-comps-place.is c.in_ok-push_ruled_out.ensures c.loop-place.invariant
