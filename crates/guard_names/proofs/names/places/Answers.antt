use Rattle.std.proofs.Common.{◌<◌, get_or, sym, ◌∙◌, subst, arith, length-set}
use Rattle.std.proofs.lemmas.Option.{slice_get-get_or}
use Rattle.guard_names.proofs.InOrder.Placing.{listed_there, placed_more}
use Rattle.guard_names.proofs.names.places.Goals as goal

pub index_mut-requires : goal.index_mut-requires
index_mut-requires c =
    let below : get_or c.args.order.now c.loop-place.place 0 < c.args.count = c.requires _ (listed_there c.args.order.now c.loop-place.place _ (slice_get-get_or c.args.order.now c.loop-place.place 0 c.loop-place-test.true)) in
    omega (arith, c.loop-place.places.ok, c.loop-place.invariant.size, below)

pub loop-place-preserved : goal.loop-place-preserved
loop-place-preserved c =
    let below : get_or c.args.order.now c.loop-place.place 0 < c.args.count = c.requires _ (listed_there c.args.order.now c.loop-place.place _ (slice_get-get_or c.args.order.now c.loop-place.place 0 c.loop-place-test.true)) in
    record {
      size = length-set c.loop-place.places.items (get_or c.args.order.now c.loop-place.place 0) c.loop-place.place ∙ c.loop-place.invariant.size;
      placed = placed_more c.args.order.now c.loop-place.places.items c.loop-place.place 0 c.loop-place-test.true (subst (λ n. get_or c.args.order.now c.loop-place.place 0 < n) (sym c.loop-place.invariant.size) below) c.loop-place.invariant.placed;
    }
