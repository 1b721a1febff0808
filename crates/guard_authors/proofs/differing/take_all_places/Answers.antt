use Rattle.std.proofs.Common.{◌∙◌, ap, arith, length, map, refl, sym}
use Rattle.std.proofs.Math.Seq.{map-set_same}
use Rattle.std.proofs.lemmas.List.{length-map, take_all}
use Rattle.std.proofs.lemmas.Simd.{map-map}
use Rattle.guard_eval.specs.Violations.{shortfall_view}
use Rattle.guard_authors.specs.Differing.{displaced_shortfall}
use Rattle.guard_authors.proofs.PlacesTaken.{bare_view, one_more_taken, whole_taken}
use Rattle.guard_authors.proofs.differing.take_all_places.Goals as goal

pub loop-shortfall-preserved : goal.loop-shortfall-preserved
loop-shortfall-preserved c = record {
  bare = one_more_taken shortfall_view bare_view _ _ _ (omega (arith, c.loop-shortfall-test.true, c.loop-shortfall.auto.shortfall-items))
      c.loop-shortfall.invariant.bare refl;
  same = map-set_same bare_view c.loop-shortfall.shortfall-items c.loop-shortfall.shortfall-index _ c.shortfall-item.result refl
      ∙ c.loop-shortfall.invariant.same;
}

pub returns : goal.returns
returns c =
    let xs = c.loop-shortfall.shortfall-items in
    let taken = c.loop-shortfall.invariant in
    let same = simp length-map at (ap length taken.same) in
    let bare = rw (take_all c.loop-shortfall.shortfall-index xs (omega arith)) at taken.bare in
    ap (map shortfall_view) (whole_taken c.args.shortfalls.now.len xs _ (omega (arith, same, c.args.shortfalls.now.ok.0)))
    ∙ bare ∙ taken.same ∙ sym (map-map displaced_shortfall shortfall_view c.args.shortfalls.now.items)
