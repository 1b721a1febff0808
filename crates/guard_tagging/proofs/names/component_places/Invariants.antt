use Rattle.std.proofs.Common.{◌≡◌, take, map}
use Rattle.guard_model.specs.TypeView as model
use Rattle.guard_tagging.specs.inside.ReadNames.{read_places}
use Rattle.guard_tagging.specs.inside.Views.{place_view}
use Rattle.guard_tagging.proofs.names.component_places.Given as goal

abbrev pub invariant-loop-index : goal.invariant-loop-index
invariant-loop-index l =
    map place_view l.places.items ≡ read_places (take l.index l.sites) (map model.component_view (take l.index l.comps))
