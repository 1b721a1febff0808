use Rattle.std.proofs.Common.{◌≡◌, map, drop}
use Rattle.std.specs.List.{list_all}
use Rattle.guard_model.specs.TypeView.{type_view, component_view, components_of}
use Rattle.guard_eval.specs.inside.Together.{keeps, parts_keep, values_view, elements_of}
use Rattle.guard_eval.proofs.together.+together.Given as goal

abbrev pub invariant-all_keep_parts-loop-place : goal.invariant-all_keep_parts-loop-place
invariant-all_keep_parts-loop-place l =
    list_all (parts_keep l.of_choice l.place (components_of (map component_view (drop l.place l.comps)))) (values_view l.values)
    ≡ list_all (parts_keep l.of_choice 0 (components_of (map component_view l.comps))) (values_view l.values)

abbrev pub invariant-lists_keep-loop-value : goal.invariant-lists_keep-loop-value
invariant-lists_keep-loop-value l =
    list_all (keeps (type_view l.ty)) (elements_of (values_view (drop l.value-index l.values))) ≡ list_all (keeps (type_view l.ty)) (elements_of (values_view l.values))
