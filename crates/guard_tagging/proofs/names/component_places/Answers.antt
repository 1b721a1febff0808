use Rattle.std.proofs.Common.{sym, arith, ◌<◌, length}
use Rattle.std.proofs.lemmas.List.{map_push}
use Rattle.guard_tagging.specs.inside.Views.{place_view}
use Rattle.guard_tagging.proofs.Numbers.Repeated.{one_place}
use Rattle.guard_tagging.proofs.names.component_places.Goals as goal

pub loop-index-preserved : goal.loop-index-preserved
loop-index-preserved c =
    let lt : c.loop-index.index < length c.args.sites.now = omega (arith, c.loop-index-test.true, c.requires) in
    rw (
      c.in_ok-push.ensures.items,
      map_push place_view c.loop-index.places.items _,
      c.loop-index.invariant,
      c.as_bytes.ensures.value,
      c.as_str.ensures.value,
    )
    (sym (one_place c.args.sites.now c.args.comps.now c.loop-index.index _ c.index-comps-index.result lt c.requires c.index-comps-index.is))
