use Rattle.std.proofs.Common.{◌≡◌, map, drop}
use Rattle.guard_model.specs.TypeView.{component_view, components_of}
use Rattle.guard_eval.specs.inside.Together.{are_free}
use Rattle.guard_eval.proofs.free_types.+free_types.Given as goal

abbrev pub invariant-are_free-loop-comp : goal.invariant-are_free-loop-comp
invariant-are_free-loop-comp l =
    are_free (components_of (map component_view (drop l.comp-index l.comps))) ≡ are_free (components_of (map component_view l.comps))
